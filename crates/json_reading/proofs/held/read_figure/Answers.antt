-- By the key, what stands there is a number in quotes, the flags or the number 0.
use Rattle.std.proofs.Common.{refl, sym, arith}
use Rattle.json_reading.proofs.Keys.{depth_last}
use Rattle.json_reading.proofs.Values.{says_held, holds_figure, holds_flags, holds_nothing, actor_took, actor_missed, flags_took, flags_missed, depth_took, depth_missed}
use Rattle.json_reading.proofs.held.read_figure.Goals as goal

pub returns-then-key-eq-ACTOR : goal.returns-then-key-eq-ACTOR
returns-then-key-eq-ACTOR c =
    let a = c.args in
    let t = c.in_ok-n.ensures in
    says_held a.s.now a.at a.key _ _ _ _ _ 0 0
    (actor_took _ _ _ _ c.if-key-eq-ACTOR.true t.0) c.held_number.ensures (omega (arith, t.1)) (omega (arith, t.1))
    (λ numbers. holds_figure _ numbers _ _ _ _ _ (rw c.if-key-eq-ACTOR.true) refl)

pub returns-in_err-n : goal.returns-in_err-n
returns-in_err-n c = rw c.from_residual.ensures (λ numbers. actor_missed _ _ c.if-key-eq-ACTOR.true c.in_err-n.ensures)

pub returns-then-key-eq-SETTINGS : goal.returns-then-key-eq-SETTINGS
returns-then-key-eq-SETTINGS c =
    let a = c.args in
    let t = c.in_ok-flags.ensures in
    says_held a.s.now a.at a.key _ _ _ _ _ 0 0
    (flags_took _ _ _ _ c.if-key-eq-SETTINGS.true t.1) c.held_number-then-key-eq-SETTINGS.ensures (omega (arith, t.3)) (omega (arith, t.3))
    (λ numbers. holds_flags _ numbers _ _ _ _ _ c.if-key-eq-SETTINGS.true (sym t.2))

pub returns-in_err-flags : goal.returns-in_err-flags
returns-in_err-flags c = rw c.from_residual-in_err-flags.ensures (λ numbers. flags_missed _ _ c.if-key-eq-SETTINGS.true c.in_err-flags.ensures)

pub returns : goal.returns
returns c =
    let a = c.args in
    let t = c.in_ok-next.ensures in
    let last = depth_last a.key c.requires c.if-key-eq-ACTOR.false c.if-key-eq-SETTINGS.false in
    says_held a.s.now a.at a.key _ _ _ _ 0 0 0
    (depth_took _ _ _ last t.0) c.held_number-2.ensures (omega (arith, t.1)) (omega (arith, t.1))
    (λ numbers. holds_nothing _ numbers _ _ _ _ _ (omega arith))

pub returns-in_err-next : goal.returns-in_err-next
returns-in_err-next c =
    let last = depth_last c.args.key c.requires c.if-key-eq-ACTOR.false c.if-key-eq-SETTINGS.false in
    rw c.from_residual-in_err-next.ensures (λ numbers. depth_missed _ _ last c.in_err-next.ensures)
