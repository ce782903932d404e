-- The number and the word of each refusal, own.
use Rattle.std.specs.Prelude.{ℕ, List, [], ◌∷◌, ◌==◌, Option, Some, None, if◌then◌else◌, codes}
use Rattle.at_event.specs.declared.refusal.Refusal.{Refusal}
use Rattle.at_event.specs.declared.refusal.TheConstants.{BAD_NODE, OTHER_OP, NOT_COVERED, OTHER_DATA}

-- each refusal's number, and its word
abbrev pub listed : Refusal → ℕ × List ℕ
listed Refusal.BadEvent = (1, codes "BadEvent")
listed Refusal.NotHome = (2, codes "NotHome")
listed Refusal.Inactive = (3, codes "Inactive")
listed Refusal.TakenDown = (4, codes "TakenDown")
listed Refusal.TooBig = (5, codes "TooBig")
listed Refusal.BlocksTooLong = (6, codes "BlocksTooLong")
listed Refusal.TooManyOps = (7, codes "TooManyOps")
listed Refusal.BadPath = (8, codes "BadPath")
listed Refusal.RepeatedPath = (9, codes "RepeatedPath")
listed Refusal.BadOp = (10, codes "BadOp")
listed Refusal.Stale = (11, codes "Stale")
listed Refusal.BadCar = (12, codes "BadCar")
listed Refusal.WrongRoot = (13, codes "WrongRoot")
listed Refusal.WrongDigest = (14, codes "WrongDigest")
listed Refusal.NoCommit = (15, codes "NoCommit")
listed Refusal.BadCommit = (16, codes "BadCommit")
listed Refusal.OtherCommit = (17, codes "OtherCommit")
listed Refusal.BadSignature = (18, codes "BadSignature")
listed Refusal.Gap = (19, codes "Gap")
listed (Refusal.BadNode a) = (BAD_NODE, codes "BadNode")
listed (Refusal.OtherOp a) = (OTHER_OP, codes "OtherOp")
listed (Refusal.NotCovered a) = (NOT_COVERED, codes "NotCovered")
listed (Refusal.OtherData a b) = (OTHER_DATA, codes "OtherData")
listed Refusal.TooLong = (24, codes "TooLong")
listed Refusal.FutureRev = (25, codes "FutureRev")
listed Refusal.NotCommit = (30, codes "NotCommit")
listed Refusal.AlreadyDown = (31, codes "AlreadyDown")
listed Refusal.NotDown = (32, codes "NotDown")
listed Refusal.NoRepository = (33, codes "NoRepository")
listed (Refusal.RepositoryRefused a) = (34, codes "RepositoryRefused")
listed Refusal.NothingToCut = (35, codes "NothingToCut")
listed Refusal.PastEnd = (36, codes "PastEnd")
listed Refusal.LastCut = (37, codes "LastCut")

-- the number in rows and reports
abbrev pub code_of : Refusal → ℕ
code_of r = (listed r).0

-- the word in reports
abbrev pub refusal_name : Refusal → List ℕ
refusal_name r = (listed r).1

-- those that say no more than their number
abbrev pub plain_refusals : List Refusal
plain_refusals =
    Refusal.BadEvent ∷ Refusal.NotHome ∷ Refusal.Inactive ∷ Refusal.TakenDown ∷ Refusal.TooBig
    ∷ Refusal.BlocksTooLong ∷ Refusal.TooManyOps ∷ Refusal.BadPath ∷ Refusal.RepeatedPath
    ∷ Refusal.BadOp ∷ Refusal.Stale ∷ Refusal.BadCar ∷ Refusal.WrongRoot ∷ Refusal.WrongDigest
    ∷ Refusal.NoCommit ∷ Refusal.BadCommit ∷ Refusal.OtherCommit ∷ Refusal.BadSignature
    ∷ Refusal.Gap ∷ Refusal.TooLong ∷ Refusal.FutureRev ∷ Refusal.NotCommit ∷ Refusal.AlreadyDown
    ∷ Refusal.NotDown ∷ Refusal.NoRepository ∷ Refusal.NothingToCut ∷ Refusal.PastEnd
    ∷ Refusal.LastCut ∷ []

-- the first of these with this number
abbrev pub found_in : ℕ → List Refusal → Option Refusal
found_in n [] = None
found_in n (r ∷ rs) = if n == code_of r then Some r else found_in n rs

-- the refusal with this number, of those that say no more than it
unfoldable pub plain_refusal : ℕ → Option Refusal
plain_refusal n = found_in n plain_refusals
