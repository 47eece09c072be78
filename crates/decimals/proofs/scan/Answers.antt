-- Where the next digit would bring the number above the limit, so does the whole run, since digits only add.
use Rattle.std.proofs.Common.{ℕ, ◌+◌, ◌*◌, ◌-◌, ◌≡◌, sym, ap, ◌∙◌, arith, length, drop, get_or}
use Rattle.decimals.specs.Decimals.{digit_run, value}
use Rattle.decimals.specs.Laws.{digit_low}
use Rattle.decimals.specs.Walk.{after_digit, after_stop, after_end, worth_digit, worth_stop, worth_end, value_more, says_value, says_large}
use Rattle.decimals.proofs.scan.Goals as goal
use Rattle.decimals.proofs.scan.Goals.{then-greatest-n-via-then-greatest-n, then-greatest-n-via-else-greatest-n+then-greatest-n-2}

pub returns-then-not-is_digit : goal.returns-then-not-is_digit
returns-then-not-is_digit c =
    let a = c.args in
    let d = sym c.is_digit.ensures ∙ c.if-not-is_digit.true in
    says_value a.s.now a.greatest _ c.loop-i.n c.loop-i.i _
    (c.loop-i.invariant.1 ∙ worth_stop a.s.now c.loop-i.i c.loop-i.n c.loop-i-test.true d)
    (c.loop-i.invariant.2 ∙ after_stop a.s.now c.loop-i.i c.loop-i-test.true d) (omega arith) (omega arith)

pub digit-d-requires : goal.digit-d-requires
digit-d-requires c = digit_low _ (sym c.is_digit.ensures ∙ c.if-not-is_digit.false)

pub returns-then-greatest-n : goal.returns-then-greatest-n
returns-then-greatest-n c =
    let a = c.args in
    let n = c.loop-i.n in
    let rest = digit_run (drop (c.loop-i.i + 1) a.s.now) in
    let d = sym c.is_digit.ensures ∙ c.if-not-is_digit.false in
    let worth = c.loop-i.invariant.1 ∙ worth_digit a.s.now c.loop-i.i n c.loop-i-test.true d in
    let more = value_more (n * 10 + (get_or a.s.now c.loop-i.i 0 - 48)) rest in
    says_large a.s.now a.greatest _ c.digits_end.result _
    (elim c.then-greatest-n.branch [
      | then-greatest-n-via-then-greatest-n w ↦ omega (arith, worth, more)
      | then-greatest-n-via-else-greatest-n+then-greatest-n-2 w ↦ omega (arith, worth, more)
    ])
    (c.loop-i.invariant.2 ∙ c.digits_end.ensures.0) (omega arith)

pub loop-i-preserved : goal.loop-i-preserved
loop-i-preserved c =
    let s = c.args.s.now in
    let d = sym c.is_digit.ensures ∙ c.if-not-is_digit.false in
    let rest = digit_run (drop (c.loop-i.i + 1) s) in (
      omega arith,
      c.loop-i.invariant.1 ∙ worth_digit s c.loop-i.i c.loop-i.n c.loop-i-test.true d ∙ ap (λ (x : ℕ). value (c.loop-i.n * 10 + x) rest) (sym c.digit-d.ensures),
      c.loop-i.invariant.2 ∙ after_digit s c.loop-i.i c.loop-i-test.true d,
    )

pub returns : goal.returns
returns c =
    let s = c.args.s.now in
    let i = c.loop-i.i in
    let at_end : i ≡ length s = omega arith in
    says_value s c.args.greatest _ c.loop-i.n (length s) _
    (c.loop-i.invariant.1 ∙ worth_end s i c.loop-i.n c.loop-i-test.false)
    (c.loop-i.invariant.2 ∙ after_end s i c.loop-i-test.false ∙ ap (λ (k : ℕ). drop k s) at_end) (omega arith) (omega arith)
