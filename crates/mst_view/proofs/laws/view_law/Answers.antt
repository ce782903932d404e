use Rattle.mst_view.proofs.TreeAt.{fault_no_view, fault_once, view_once, view_or_fault}
use Rattle.mst_view.proofs.laws.view_law.Goals as goal

pub returns : goal.returns
returns c = λ B r b under kind at. record {
  some = view_or_fault B r b under kind at;
  not_both = λ F f view bad. fault_no_view B r f F bad view;
  one_view = view_once B r;
  one_fault = fault_once B r;
}
