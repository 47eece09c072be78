-- The text of an action in range on a sheet of 807 bytes: its head and its tail fit one behind the other, and the sheet's front is then the text.
-- Assumes nothing.
use Rattle.std.proofs.Common.{ℕ, ◌+◌, ◌≤◌, ◌≡◌, sym, ap, ◌∙◌, List, ◌++◌, Bool, true, ◌&&◌, arith, leb, length, take, length-append}
use lib.Dec.{leb-suc-suc}
use Rattle.lists.specs.Splices.{length_splice}
use Rattle.lists.specs.Tests.{cases}
use Rattle.lists.specs.Lists.{splice}
use Rattle.rights.specs.Rights.{policy_modifying}
use Rattle.actions.specs.Actions.{action_fits}
use Rattle.actions.specs.declared.Action.{Action}
use Rattle.buffers.specs.Laws.{Writing, splice_front, writing_start, writing_next, writing_left, writing_last}
use Rattle.json_rules.specs.Members.{is_id_text}
use Rattle.json_rules.specs.Actions.{json_text, json_fits, json_limit}
use Rattle.json_writing.specs.Pieces.{head_text, tail_text}
use Rattle.json_writing.proofs.Laws.{pieces_natural, json_length}

-- the code's test of the ranges is the one of `json_fits`
pub fits_tested : (a : Action) (id : List ℕ) (kind : ℕ) {fit named : Bool} → fit ≡ action_fits a → named ≡ is_id_text id
    → (fit && named) && leb kind policy_modifying ≡ json_fits a id kind
unfolding json_fits
fits_tested a id kind fit named =
    rw (fit, named, leb-suc-suc kind policy_modifying) (cases (action_fits a) (λ e. rw e) (λ e. rw e))

module _ (a : Action) (id : List ℕ) (kind : ℕ) (old : List ℕ) (fits : json_fits a id kind ≡ true) (full : length old ≡ json_limit) where
  pieces_room : 0 + length (head_text a.actor id kind ++ tail_text a) ≤ length old
  pieces_room = omega (arith, full, json_length a id kind fits, ap length (pieces_natural a id kind))

  pub head_room : length (head_text a.actor id kind) ≤ length old
  head_room = omega (arith, pieces_room, length-append (head_text a.actor id kind) (tail_text a))

  module _ {end : ℕ} {new : List ℕ} (place : end ≡ length (head_text a.actor id kind)) (written : new ≡ splice 0 (head_text a.actor id kind) old) where
    headed : Writing 0 (head_text a.actor id kind ++ tail_text a) old (tail_text a) end new
    headed =
        writing_next (head_text a.actor id kind) (tail_text a) pieces_room (writing_start 0 (head_text a.actor id kind ++ tail_text a) old)
        (omega (arith, place)) written

    pub tail_room : end + length (tail_text a) ≤ length new
    tail_room = writing_left pieces_room headed

    module _ {next : ℕ} {then : List ℕ} (further : next ≡ end + length (tail_text a)) (also : then ≡ splice end (tail_text a) new) where
      whole : (next ≡ 0 + length (head_text a.actor id kind ++ tail_text a)) × (then ≡ splice 0 (head_text a.actor id kind ++ tail_text a) old)
      whole = writing_last pieces_room headed further also

      pub sheet_inside : next ≤ length then
      sheet_inside =
          let text = head_text a.actor id kind ++ tail_text a in
          omega (arith, pieces_room, whole.0, ap length whole.1 ∙ length_splice 0 text old pieces_room)

      pub sheet_front : take next then ≡ json_text a id kind
      sheet_front =
          let text = head_text a.actor id kind ++ tail_text a in
          let end : next ≡ length text = omega (arith, whole.0) in
          rw (end, whole.1) (splice_front text old) ∙ sym (pieces_natural a id kind)
