-- No digit, and a zero with a digit behind it, begin no decimal; from any other digit on the decimal is what `scan` finds.
use Rattle.std.proofs.Common.{◌≡◌, ◌+◌, sym, ◌∙◌, arith, drop}
use mathlib.Core.Path.{subst⁻¹}
use Rattle.decimals.specs.Decimals.{Parsed, parse, judge, value, digit_run, after}
use Rattle.decimals.specs.Walk.{run_stop, run_end, parse_empty, parse_zero, parse_lead, parse_single}
use Rattle.decimals.specs.Answers.{Says}
use Rattle.decimals.proofs.read_number.Goals as goal
use Rattle.decimals.proofs.read_number.Goals.{else-b-eq48-via-then-b-eq48+then-at-s+else-is_digit, else-b-eq48-via-then-b-eq48+else-at-s, else-b-eq48-via-else-b-eq48}

pub returns-then-s-at : goal.returns-then-s-at
returns-then-s-at c =
    let a = c.args in
    parse_empty a.greatest a.s.now a.at (run_end a.s.now a.at c.if-s-at.true)

pub returns-then-not-is_digit : goal.returns-then-not-is_digit
returns-then-not-is_digit c =
    let a = c.args in
    parse_empty a.greatest a.s.now a.at (run_stop a.s.now a.at (omega arith) (sym c.is_digit.ensures ∙ c.if-not-is_digit.true))

pub returns-then-is_digit : goal.returns-then-is_digit
returns-then-is_digit c =
    let a = c.args in
    parse_zero a.greatest a.s.now a.at (omega arith) (sym c.is_digit.ensures ∙ c.if-not-is_digit.false)
    c.if-b-eq48.true c.if-at-s.true (sym c.is_digit-then-at-s.ensures ∙ c.if-is_digit.true)

pub returns : goal.returns
returns c =
    let a = c.args in
    let d = sym c.is_digit.ensures ∙ c.if-not-is_digit.false in
    let same : parse a.greatest (drop a.at a.s.now) ≡ judge a.greatest (value 0 (digit_run (drop a.at a.s.now))) (after (drop a.at a.s.now)) =
    elim c.else-b-eq48.branch [
      | else-b-eq48-via-then-b-eq48+then-at-s+else-is_digit w ↦ parse_single a.greatest a.s.now a.at (omega arith) d (run_stop a.s.now (a.at + 1) w.if-at-s.true (sym w.is_digit-then-at-s.ensures ∙ w.if-is_digit.false))
      | else-b-eq48-via-then-b-eq48+else-at-s w ↦ parse_single a.greatest a.s.now a.at (omega arith) d (run_end a.s.now (a.at + 1) w.if-at-s.false)
      | else-b-eq48-via-else-b-eq48 w ↦ parse_lead a.greatest a.s.now a.at (omega arith) d w.if-b-eq48.false
    ] in
    subst⁻¹ (λ (p : Parsed). Says a.s.now c.scan.result p) same c.scan.ensures
