-- Texts of two parts that are put one behind the other: a violation's pair, the lines of a refusal, the lines of a verdict. Assumes nothing.
use Rattle.std.proofs.Common.{ℕ, ◌+◌, ◌≤◌, ◌≡◌, sym, ap, ◌∙◌, List, ◌++◌, arith, length}
use Rattle.lists.specs.Lists.{splice}
use Rattle.refusals.specs.Refusals.{number_of}
use Rattle.refusals.specs.declared.Refusal.{Refusal}
use Rattle.actions.specs.Actions.{kind_of, value_of}
use Rattle.actions.specs.declared.Violation.{Violation}
use Rattle.actions.specs.declared.Violations.{Violations}
use Rattle.actions.specs.declared.Decision.{Decision}
use Rattle.actions.specs.declared.Verdict.{Verdict}
use Rattle.lines.specs.Lines.{decimal_line}
use Rattle.buffers.specs.Buffers.{put}
use Rattle.buffers.specs.Laws.{Writing, put_fits, writing_start, writing_put, writing_left, writing_last}
use Rattle.buffers.specs.Positions.{behind}
use Rattle.verdict_printing.specs.Printed.{stopped_line, violation_key, at_key, refusal_key, pair_text, list_text, stopped_text, verdict_lines, verdict_text}

module _ (first second : List ℕ) (at : ℕ) (old : List ℕ) {end : ℕ} {new : List ℕ} (room : at + length (first ++ second) ≤ length old)
    (place : end ≡ behind at first old) (written : new ≡ put at first old) where
  begun : Writing at (first ++ second) old second end new
  begun = writing_put first second room (writing_start at (first ++ second) old) place written

  -- behind the first part the second fits
  pub second_room : end + length second ≤ length new
  second_room = writing_left room begun

  -- the second part is written
  pub second_written : {next : ℕ} {then : List ℕ} → next ≡ end + length second → then ≡ splice end second new
      → (next ≡ at + length (first ++ second)) × (then ≡ splice at (first ++ second) old)
  second_written further also = writing_last room begun further also

  -- the second part is put
  pub second_put : {next : ℕ} {then : List ℕ} → next ≡ behind end second new → then ≡ put end second new
      → (next ≡ at + length (first ++ second)) × (then ≡ splice at (first ++ second) old)
  second_put further also = let fit = put_fits end second new second_room in second_written (further ∙ fit.1) (also ∙ fit.0)

-- the pair of a violation whose kind and value are known
pub pair_written : (v : Violation) (at : ℕ) (old : List ℕ) {kind value end next : ℕ} {new then : List ℕ} → at + length (pair_text v) ≤ length old
    → kind ≡ kind_of v → value ≡ value_of v
    → end ≡ behind at (decimal_line violation_key kind) old → new ≡ put at (decimal_line violation_key kind) old
    → next ≡ behind end (decimal_line at_key value) new → then ≡ put end (decimal_line at_key value) new
    → (next ≡ at + length (pair_text v)) × (then ≡ splice at (pair_text v) old)
unfolding pair_text
pair_written v at old room k l place written further also =
    second_put (decimal_line violation_key (kind_of v)) (decimal_line at_key (value_of v)) at old room (rw k at place) (rw k at written) (rw l at further) (rw l at also)

-- the lines of a refusal whose number is known
pub stopped_written : (why : Refusal) (old : List ℕ) {number end next : ℕ} {new then : List ℕ} → length (stopped_text why) ≤ length old
    → number ≡ number_of why
    → end ≡ behind 0 stopped_line old → new ≡ put 0 stopped_line old
    → next ≡ behind end (decimal_line refusal_key number) new → then ≡ put end (decimal_line refusal_key number) new
    → (next ≡ length (stopped_text why)) × (then ≡ splice 0 (stopped_text why) old)
unfolding stopped_text
stopped_written why old room n place written further also =
    let whole = second_put stopped_line (decimal_line refusal_key (number_of why)) 0 old (omega (arith, room)) place written (rw n at further) (rw n at also) in
    (omega (arith, whole.0), whole.1)

-- a verdict's text, by the decision
pub verdict_lines_lem : (v : Verdict) (d : Decision) → v.decision ≡ d → verdict_text v ≡ verdict_lines d v.violations
unfolding verdict_text
verdict_lines_lem v d e = ap (λ (f : Decision). verdict_lines f v.violations) e

-- a text that is a line and a list: behind the line the list fits, and is then written
module _ (whole head : List ℕ) (vs : Violations) (old : List ℕ) {end : ℕ} {new : List ℕ} (same : whole ≡ head ++ list_text vs)
    (room : length whole ≤ length old) (place : end ≡ behind 0 head old) (written : new ≡ put 0 head old) where
  pub headed_room : end + length (list_text vs) ≤ length new
  headed_room = second_room head (list_text vs) 0 old (omega (arith, room, ap length same)) place written

  pub headed_written : {next : ℕ} {then : List ℕ} → next ≡ end + length (list_text vs) → then ≡ splice end (list_text vs) new
      → (next ≡ length whole) × (then ≡ splice 0 whole old)
  headed_written further also =
      let all = second_written head (list_text vs) 0 old (omega (arith, room, ap length same)) place written further also in
      (omega (arith, all.0, ap length same), all.1 ∙ ap (λ (t : List ℕ). splice 0 t old) (sym same))

-- a text that is another
pub same_written : (t u old : List ℕ) {next : ℕ} {then : List ℕ} → u ≡ t → next ≡ length t → then ≡ splice 0 t old
    → (next ≡ length u) × (then ≡ splice 0 u old)
same_written t u old same place written = (place ∙ ap length (sym same), written ∙ ap (λ (x : List ℕ). splice 0 x old) (sym same))
