-- Words are the encoding of one command at most.
use Rattle.std.proofs.Common.{rules, Option, Some, None, refl, sym, ap, ◌≡◌, ◌<◌, ◌-◌, ◌^◌, ℕ, List, arith, decimal}
use Rattle.std.proofs.lemmas.Fmt.{decimal_injective}
use Rattle.relay_cli.specs.declared.command.Command.{Command}
use Rattle.at_cid.specs.declared.limits.TheConstants.{NUMBERS}
use Rattle.relay_cli.specs.declared.command.TheConstants.{MOST, MOST_TRIED}
use Rattle.relay_cli.specs.Commands.{IsCollection, IsNumber, IsEncoded, collection_word}

same_number : (least most m n : ℕ) → most < 2 ^ 64 → IsNumber least most m → IsNumber least most n → decimal m ≡ decimal n → m ≡ n
same_number least most m n small one other is = decimal_injective m n (omega (arith, small, one.to_most)) (omega (arith, small, other.to_most)) is

same_count : (m n : ℕ) → IsNumber 1 MOST m → IsNumber 1 MOST n → decimal m ≡ decimal n → m ≡ n
same_count m n = same_number 1 MOST m n (omega arith)

same_cursor : (m n : ℕ) → IsNumber 0 (NUMBERS - 1) m → IsNumber 0 (NUMBERS - 1) n → decimal m ≡ decimal n → m ≡ n
same_cursor m n = same_number 0 (NUMBERS - 1) m n (omega arith)

same_tried : (m n : ℕ) → IsNumber 1 MOST_TRIED m → IsNumber 1 MOST_TRIED n → decimal m ≡ decimal n → m ≡ n
same_tried m n = same_number 1 MOST_TRIED m n (omega arith)

same_collection : (c d : Option (List ℕ)) → IsCollection c → IsCollection d → collection_word c ≡ collection_word d → c ≡ d
same_collection None None c d is = refl
same_collection None (Some text) c d is = absurd (d.1 (sym is))
same_collection (Some text) None c d is = absurd (c.1 is)
same_collection (Some text) (Some other) c d is = ap Some is

pub one_command : (words : List (List ℕ)) (a b : Command) → IsEncoded words a → IsEncoded words b → a ≡ b
one_command words (Command.Follow h m) (Command.Follow k n) one other =
    let u = one.words_are in
    let v = other.words_are in
    let texts : decimal m ≡ decimal n = cc in
    let number = same_count m n one.in_form.1 other.in_form.1 texts in
    cc
one_command words (Command.Replay m) (Command.Replay n) one other =
    let u = one.words_are in
    let v = other.words_are in
    let texts : decimal m ≡ decimal n = cc in
    let number = same_cursor m n one.in_form other.in_form texts in
    cc
one_command words (Command.Serve m) (Command.Serve n) one other =
    let u = one.words_are in
    let v = other.words_are in
    let texts : decimal m ≡ decimal n = cc in
    let number = same_count m n one.in_form other.in_form texts in
    cc
one_command words (Command.Cut m) (Command.Cut n) one other =
    let u = one.words_are in
    let v = other.words_are in
    let texts : decimal m ≡ decimal n = cc in
    let number = same_cursor m n one.in_form other.in_form texts in
    cc
one_command words (Command.Trial s m) (Command.Trial t n) one other =
    let u = one.words_are in
    let v = other.words_are in
    let starts : decimal s ≡ decimal t = cc in
    let texts : decimal m ≡ decimal n = cc in
    let start = same_cursor s t one.in_form.0 other.in_form.0 starts in
    let number = same_tried m n one.in_form.1 other.in_form.1 texts in
    cc
one_command words (Command.Query m) (Command.Query n) one other =
    let u = one.words_are in
    let v = other.words_are in
    let texts : decimal m ≡ decimal n = cc in
    let number = same_count m n one.in_form other.in_form texts in
    cc
one_command words (Command.Lines m c) (Command.Lines n d) one other =
    let u = one.words_are in
    let v = other.words_are in
    let texts : decimal m ≡ decimal n = cc in
    let names : collection_word c ≡ collection_word d = cc in
    let number = same_cursor m n one.in_form.0 other.in_form.0 texts in
    let collection = same_collection c d one.in_form.1 other.in_form.1 names in
    cc
one_command words a b one other = search (rules, same_count, same_cursor, same_tried)
