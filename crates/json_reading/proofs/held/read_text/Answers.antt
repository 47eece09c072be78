-- By the key, a text is an id, the name of a kind or the one trust domain.
use Rattle.std.proofs.Common.{◌+◌, ◌-◌, ◌≤◌, ◌≡◌, refl, sym, ◌∙◌, arith, length, drop, length-take, length-drop}
use Rattle.json_tokens.specs.Tokens.{tokens}
use Rattle.json_tokens.specs.Answers.{part}
use Rattle.json_reading.proofs.Keys.{domain_last}
use Rattle.json_reading.proofs.Values.{text_mark, text_none, text_broken, says_held, holds_letters, holds_figure, holds_nothing, id_short, id_took, id_unfit, kind_took, kind_unfit, domain_took, domain_unfit, no_text_held}
use Rattle.json_reading.proofs.held.read_text.Goals as goal

pub returns-then-is_id : goal.returns-then-is_id
returns-then-is_id c =
    let a = c.args in
    let t = c.in-Text.ensures in
    let from = c.in-Text.from in
    let end = c.in-Text.end in
    let fit = sym c.is_id.ensures ∙ c.if-is_id.true in
    let long : length (part from end a.s.now) ≡ end - from = simp (length-take, length-drop) (omega arith) in
    let short : end - from ≤ 64 = omega (arith, long, id_short (part from end a.s.now) fit) in
    says_held a.s.now a.at a.key _ _ _ (end + 1) 0 from (end - from)
    (id_took _ _ _ _ t.0 c.if-key-eq-ID.true fit) refl (omega arith) (omega arith)
    (λ numbers. holds_letters _ numbers _ _ _ _ _ c.if-key-eq-ID.true refl short (omega arith))

pub returns-then-key-eq-ID : goal.returns-then-key-eq-ID
returns-then-key-eq-ID c =
    let a = c.args in
    let t = c.in-Text.ensures in
    λ numbers. id_unfit _ _ _ _ t.0 c.if-key-eq-ID.true (sym c.is_id.ensures ∙ c.if-is_id.false)

pub returns-then-kind-le-POLICY_MODIFY : goal.returns-then-kind-le-POLICY_MODIFY
returns-then-kind-le-POLICY_MODIFY c =
    let a = c.args in
    let t = c.in-Text.ensures in
    says_held a.s.now a.at a.key _ _ _ _ _ 0 0
    (kind_took _ _ _ _ t.0 c.if-key-eq-KIND.true (omega (arith, c.kind_place-kind.ensures))) c.held_number.ensures (omega arith) (omega arith)
    (λ numbers. holds_figure _ numbers _ _ _ _ _ (rw c.if-key-eq-KIND.true) (sym c.kind_place-kind.ensures))

pub returns-then-key-eq-KIND : goal.returns-then-key-eq-KIND
returns-then-key-eq-KIND c =
    let a = c.args in
    let t = c.in-Text.ensures in
    λ numbers. kind_unfit _ _ _ _ t.0 c.if-key-eq-KIND.true (omega (arith, c.kind_place-kind.ensures))

pub returns-then-is_same : goal.returns-then-is_same
returns-then-is_same c =
    let a = c.args in
    let t = c.in-Text.ensures in
    let last = domain_last a.key c.requires c.if-key-eq-ID.false c.if-key-eq-KIND.false in
    says_held a.s.now a.at a.key _ _ _ _ 0 0 0
    (domain_took _ _ _ _ t.0 last (sym c.is_same.ensures ∙ c.if-is_same.true)) c.held_number-then-is_same.ensures (omega arith) (omega arith)
    (λ numbers. holds_nothing _ numbers _ _ _ _ _ (omega arith))

pub returns-else-is_same : goal.returns-else-is_same
returns-else-is_same c =
    let a = c.args in
    let t = c.in-Text.ensures in
    let last = domain_last a.key c.requires c.if-key-eq-ID.false c.if-key-eq-KIND.false in
    λ numbers. domain_unfit _ _ _ _ t.0 last (sym c.is_same.ensures ∙ c.if-is_same.false)

pub returns-in-Mark : goal.returns-in-Mark
returns-in-Mark c =
    λ numbers. no_text_held c.args.key (tokens (drop c.args.at c.args.s.now)) c.requires (text_mark _ _ _ c.in-Mark.ensures.0)

pub returns-in-End : goal.returns-in-End
returns-in-End c =
    λ numbers. no_text_held c.args.key (tokens (drop c.args.at c.args.s.now)) c.requires (text_none _ c.in-End.ensures)

pub returns-in-Bad : goal.returns-in-Bad
returns-in-Bad c =
    λ numbers. no_text_held c.args.key (tokens (drop c.args.at c.args.s.now)) c.requires (text_broken _ _ c.in-Bad.ensures)
