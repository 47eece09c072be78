-- Texts of one or two parts that are put into the buffer: a verdict, the lines of a refusal, the line that names what was refused. Assumes nothing.
use Rattle.std.proofs.Common.{Result, ℕ, ◌+◌, ◌≤◌, ◌≡◌, refl, sym, ap, ◌∙◌, cond, List, [], ◌++◌, arith, ne_eqb, eqb, length, length-append}
use Rattle.lists.specs.Lists.{splice}
use Rattle.lists.specs.Splices.{splice_nil}
use Rattle.refusals.specs.Refusals.{number_of}
use Rattle.refusals.specs.declared.Refusal.{Refusal}
use Rattle.refusals.specs.declared.Refusal.TheVariants.{Absent, Unsound}
use Rattle.lines.specs.Lines.{decimal_line}
use Rattle.buffers.specs.Buffers.{put}
use Rattle.buffers.specs.Laws.{put_fits}
use Rattle.buffers.specs.Positions.{behind}
use Rattle.steps.specs.declared.PlanTextVerdict.{PlanTextVerdict}
use Rattle.verdict_printing.specs.Printed.{refusal_key}
use Rattle.verdict_printing.proofs.Joining.{second_room, second_written, second_put}
use Rattle.plan_verdict_text.specs.PlanPrinted.{plan_stopped_line, line_key, position_key, plan_stopped_text, place_text, plan_answer_lines, plan_answer_text}

-- a text that is one part
pub part_written : (whole part : List ℕ) (at : ℕ) (old : List ℕ) {next : ℕ} {then : List ℕ} → whole ≡ part → at + length whole ≤ length old
    → next ≡ behind at part old → then ≡ put at part old
    → (next ≡ at + length whole) × (then ≡ splice at whole old)
part_written whole part at old same room place written =
    let fit = put_fits at part old (omega (arith, room, ap length same)) in
    (place ∙ fit.1 ∙ ap (λ (t : List ℕ). at + length t) (sym same), written ∙ fit.0 ∙ ap (λ (t : List ℕ). splice at t old) (sym same))

-- a text that is two parts: behind the first the second fits, and is then put, or written
module _ (whole first second : List ℕ) (at : ℕ) (old : List ℕ) {end : ℕ} {new : List ℕ} (same : whole ≡ first ++ second)
    (room : at + length whole ≤ length old) (place : end ≡ behind at first old) (written : new ≡ put at first old) where
  enough : at + length (first ++ second) ≤ length old
  enough = omega (arith, room, ap length same)

  pub behind_room : end + length second ≤ length new
  behind_room = second_room first second at old enough place written

  pub both_written : {next : ℕ} {then : List ℕ} → next ≡ end + length second → then ≡ splice end second new
      → (next ≡ at + length whole) × (then ≡ splice at whole old)
  both_written further also =
      let all = second_written first second at old enough place written further also in
      (all.0 ∙ ap (λ (t : List ℕ). at + length t) (sym same), all.1 ∙ ap (λ (t : List ℕ). splice at t old) (sym same))

  pub both_put : {next : ℕ} {then : List ℕ} → next ≡ behind end second new → then ≡ put end second new
      → (next ≡ at + length whole) × (then ≡ splice at whole old)
  both_put further also =
      let fit = put_fits end second new behind_room in
      both_written (further ∙ fit.1) (also ∙ fit.0)

-- the lines of a refusal whose number is known
pub stopped_written : (why : Refusal) (old : List ℕ) {number end next : ℕ} {new then : List ℕ} → length (plan_stopped_text why) ≤ length old
    → number ≡ number_of why
    → end ≡ behind 0 plan_stopped_line old → new ≡ put 0 plan_stopped_line old
    → next ≡ behind end (decimal_line refusal_key number) new → then ≡ put end (decimal_line refusal_key number) new
    → (next ≡ length (plan_stopped_text why)) × (then ≡ splice 0 (plan_stopped_text why) old)
unfolding plan_stopped_text
stopped_written why old room n place written further also =
    let whole = second_put plan_stopped_line (decimal_line refusal_key (number_of why)) 0 old (omega (arith, room)) place written (rw n at further) (rw n at also) in
    (omega (arith, whole.0), whole.1)

-- a text of nothing
pub nothing_written : (whole : List ℕ) (at : ℕ) (old : List ℕ) → whole ≡ [] → (at ≡ at + length whole) × (old ≡ splice at whole old)
nothing_written whole at old same =
    (omega (arith, ap length same), sym (splice_nil at old) ∙ ap (λ (t : List ℕ). splice at t old) (sym same))

-- what a refusal names, by its number
abbrev placed : ℕ → ℕ → ℕ → List ℕ
placed number line position =
    cond (eqb number 3) (decimal_line position_key position) (cond (eqb number 1) [] (decimal_line line_key line))

module _ (why : Refusal) (line position : ℕ) where
  placed_by : place_text why line position ≡ placed (number_of why) line position
  unfolding place_text
  placed_by = refl

  pub place_position : number_of why ≡ 3 → place_text why line position ≡ decimal_line position_key position
  place_position e = placed_by ∙ ap (λ (n : ℕ). placed n line position) e

  pub place_none : number_of why ≡ 1 → place_text why line position ≡ []
  place_none e = placed_by ∙ ap (λ (n : ℕ). placed n line position) e

  pub place_line : (number_of why ≡ 3 → ⊥) → (number_of why ≡ 1 → ⊥) → place_text why line position ≡ decimal_line line_key line
  place_line absent unsound = placed_by ∙ other (number_of why) absent unsound
    where
      other : (n : ℕ) → (n ≡ 3 → ⊥) → (n ≡ 1 → ⊥) → cond (eqb n 3) (decimal_line position_key position) (cond (eqb n 1) [] (decimal_line line_key line)) ≡ decimal_line line_key line
      other n h k = rw (ne_eqb n 3 h, ne_eqb n 1 k)

-- an answer's text, by its outcome
pub answer_lines : (v : PlanTextVerdict) (o : Result Unit Refusal) → v.outcome ≡ o → plan_answer_text v ≡ plan_answer_lines o v
unfolding plan_answer_text
answer_lines v o e = ap (λ (x : Result Unit Refusal). plan_answer_lines x v) e

-- a text of two parts, of which the first is written: the second fits, and is then written
module _ (whole first second old : List ℕ) {end : ℕ} {new : List ℕ} (same : whole ≡ first ++ second) (room : length whole ≤ length old)
    (place : end ≡ length first) (written : new ≡ splice 0 first old) where
  begun : (put 0 first old ≡ splice 0 first old) × (behind 0 first old ≡ 0 + length first)
  begun = put_fits 0 first old (omega (arith, room, ap length same, length-append first second))

  there : end ≡ behind 0 first old
  there = omega (arith, place, begun.1)

  pub rest_room : end + length second ≤ length new
  rest_room = behind_room whole first second 0 old same (omega (arith, room)) there (written ∙ sym begun.0)

  pub rest_written : {next : ℕ} {then : List ℕ} → next ≡ end + length second → then ≡ splice end second new
      → (next ≡ length whole) × (then ≡ splice 0 whole old)
  rest_written further also =
      let all = both_written whole first second 0 old same (omega (arith, room)) there (written ∙ sym begun.0) further also in
      (omega (arith, all.0), all.1)

-- a refusal but those two names a line
pub place_other : (why : Refusal) (line position : ℕ) → (why ≡ Absent → ⊥) → (why ≡ Unsound → ⊥) → place_text why line position ≡ decimal_line line_key line
unfolding place_text
place_other Absent line position h k = absurd (h refl)
place_other Unsound line position h k = absurd (k refl)
place_other why line position h k = refl
