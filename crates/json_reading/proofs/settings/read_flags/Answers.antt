-- A setting with a comma behind it is noted; the closing mark ends the flags; a setting that is missing, broken or there before is none.
use Rattle.std.proofs.Common.{ℕ, sym, subst, arith, drop}
use Rattle.json_tokens.specs.Tokens.{closes_object, tokens}
use Rattle.json_rules.specs.Members.{items, take_setting}
use Rattle.json_reading.specs.Answers.{full_set, SettingsSays}
use Rattle.std.specs.Prelude.{Option}
use Rattle.json_reading.proofs.FlagSettings.{reading_start, reading_missed, reading_again, reading_broken, reading_more, reading_done}
use Rattle.json_reading.proofs.settings.read_flags.Goals as goal

pub loop-flag-init : goal.loop-flag-init
loop-flag-init c = reading_start c.args.s.now c.args.begun

pub returns-then-seen-flag : goal.returns-then-seen-flag
returns-then-seen-flag c =
    let one = c.in_ok-flag.ensures in
    reading_again c.loop-flag.invariant one.0 one.1 c.if-seen-flag.true

pub loop-flag-preserved : goal.loop-flag-preserved
loop-flag-preserved c =
    let loop = c.loop-flag in
    let one = c.in_ok-flag.ensures in
    let comma = rw c.in-More.is at c.in_ok-next.ensures in
    reading_more loop.invariant one.0 one.1 c.in-More.next c.if-seen-flag.false comma.0 (omega (arith, loop.invariant.onward, one.2.0, comma.1.0))

pub returns-in-Done : goal.returns-in-Done
returns-in-Done c =
    let loop = c.loop-flag in
    let a = c.args in
    let one = c.in_ok-flag.ensures in
    let close = rw c.in-Done.is at c.in_ok-next.ensures in
    subst (λ (r : Option (ℕ × ℕ)). SettingsSays a.s.now a.begun r (full_set (items take_setting closes_object (tokens (drop a.begun a.s.now)))))
    (sym c.flags_number.ensures)
    (reading_done loop.invariant one.0 one.1 c.in-Done.next c.if-seen-flag.false close.0
    (omega (arith, loop.invariant.onward, one.2.0, close.1.0), close.1.1))

pub returns-in_err-next : goal.returns-in_err-next
returns-in_err-next c =
    let one = c.in_ok-flag.ensures in
    rw c.from_residual-in_err-next.ensures (reading_broken c.loop-flag.invariant one.0 one.1 c.in_err-next.ensures)

pub returns-in_err-flag : goal.returns-in_err-flag
returns-in_err-flag c = rw c.from_residual.ensures (reading_missed c.loop-flag.invariant c.in_err-flag.ensures)
