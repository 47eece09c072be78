-- Two writings agree exactly where id, kind, actor, flags and ordered uses do. Assumes nothing.
use Rattle.std.proofs.Common.{ℕ, ◌-◌, ◌≡◌, sym, ap, ◌∙◌, true, List, arith, length, take, replicate}
use lib.Seq.{take-append_seam}
use Rattle.actions.specs.Actions.{no_use, use_limit, uses_of}
use Rattle.actions.specs.declared.Action.{Action}
use Rattle.json_rules.specs.Members.{id_length}
use Rattle.json_rules.specs.Actions.{resources_with, members_from, json_text, json_fits, held_id, json_read}
use Rattle.json_rules.specs.declared.JsonRead.{JsonRead}
use Rattle.json_rules.specs.Orders.{ordered, ordered_at, SameJson}
use Rattle.json_rules.proofs.Ordering.{ordered_read, ordered_write, ordered_execute}
use Rattle.json_rules.proofs.ReadWritten.{read_written}

module _ (a b : Action) (id other : List ℕ) (kind right : ℕ) where
  pub same_text : SameJson a b id other kind right → json_text a id kind ≡ json_text b other right
  unfolding json_text members_from
  same_text h =
      let reads : resources_with 0 (uses_of a) ≡ resources_with 0 (uses_of b) =
      sym (ordered_read (uses_of a)) ∙ ap (resources_with 0) h.uses ∙ ordered_read (uses_of b) in
      let writes : resources_with 1 (uses_of a) ≡ resources_with 1 (uses_of b) =
      sym (ordered_write (uses_of a)) ∙ ap (resources_with 1) h.uses ∙ ordered_write (uses_of b) in
      let executes : resources_with 2 (uses_of a) ≡ resources_with 2 (uses_of b) =
      sym (ordered_execute (uses_of a)) ∙ ap (resources_with 2) h.uses ∙ ordered_execute (uses_of b) in
      rw (h.ids, h.kinds, h.actors, h.flags, reads, writes, executes)

-- the id and the uses that a reading holds, without the zeros behind them
read_id : (id : List ℕ) → take (length id) (held_id id) ≡ id
read_id id = take-append_seam id (replicate (id_length - length id) 0)

read_uses_lem : (a : Action) → uses_of (ordered_at 0 a) ≡ ordered (uses_of a)
unfolding ordered_at
read_uses_lem a = take-append_seam (ordered (uses_of a)) (replicate (use_limit - length (ordered (uses_of a))) no_use)

module _ (a b : Action) (id other : List ℕ) (kind right : ℕ) (fits : json_fits a id kind ≡ true) (fit : json_fits b other right ≡ true) where
  pub text_same : json_text a id kind ≡ json_text b other right → SameJson a b id other kind right
  unfolding ordered_at
  text_same e =
      let same = sym (read_written a id kind 0 fits (omega arith)) ∙ ap (λ t. json_read t 0) e ∙ read_written b other right 0 fit (omega arith) in
      record {
        ids = sym (read_id id) ∙ ap (λ (r : JsonRead). take r.len r.id) same ∙ read_id other;
        kinds = ap (λ (r : JsonRead). r.kind) same;
        actors = ap (λ (r : JsonRead). r.action.actor) same;
        flags = ap (λ (r : JsonRead). r.action.flags) same;
        uses = sym (read_uses_lem a) ∙ ap (λ (r : JsonRead). uses_of r.action) same ∙ read_uses_lem b;
      }
