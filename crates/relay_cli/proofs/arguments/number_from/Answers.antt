use Rattle.std.proofs.Common.{◌≡◌, ◌<◌, ◌≤◌, ◌^◌, Ok, arith, refl, true}
use Rattle.std.proofs.lemmas.Fmt.{parse-decimal}
use Rattle.at_cid.proofs.Links.{same_iff}
use Rattle.relay_cli.proofs.arguments.number_from.Goals as goal

pub returns-in_default-clause-none : goal.returns-in_default-clause-none
returns-in_default-clause-none c = λ _ n range is.
    let top : n ≤ c.args.most = range.to_most in
    let fits : n < 2 ^ 64 = omega (arith, top, c.ranges.most.fits) in
    let read : c.parse.result ≡ Ok n = parse-decimal 64 n _ _ (omega arith) fits is c.parse.ensures.value.0 in
    let same : c.in-Ok.number ≡ n = (cc) in
    let text : c.format.result.now ≡ c.args.word.now = (cc) in
    let equal : c.eq.result ≡ true = (same_iff _ _ _ _ c.eq.ensures refl).1 text in
    cc

pub returns-in_default-2-clause-none : goal.returns-in_default-2-clause-none
returns-in_default-2-clause-none c = λ _ n range is.
    let top : n ≤ c.args.most = range.to_most in
    let fits : n < 2 ^ 64 = omega (arith, top, c.ranges.most.fits) in
    let read : c.parse.result ≡ Ok n = parse-decimal 64 n _ _ (omega arith) fits is c.parse.ensures.value.0 in
    let same : c.in-Ok.number ≡ n = (cc) in
    omega (arith, top)

pub returns-in_default-3-clause-none : goal.returns-in_default-3-clause-none
returns-in_default-3-clause-none c = λ _ n range is.
    let top : n ≤ c.args.most = range.to_most in
    let low : c.args.least ≤ n = range.from_least in
    let fits : n < 2 ^ 64 = omega (arith, top, c.ranges.most.fits) in
    let read : c.parse.result ≡ Ok n = parse-decimal 64 n _ _ (omega arith) fits is c.parse.ensures.value.0 in
    let same : c.in-Ok.number ≡ n = (cc) in
    omega (arith, low)

pub returns-in_default-4-clause-none : goal.returns-in_default-4-clause-none
returns-in_default-4-clause-none c = λ _ n range is.
    let top : n ≤ c.args.most = range.to_most in
    let fits : n < 2 ^ 64 = omega (arith, top, c.ranges.most.fits) in
    cc (parse-decimal 64 n _ _ (omega arith) fits is c.parse.ensures.value.0)
