-- Laws: The text of a section, a count line and then thing by thing, for any kind of thing: what stands in the buffer after the count line, at each
-- turn of the loop over the things, and behind the last. Assumes nothing.
use Rattle.std.specs.Prelude.{ℕ, suc, ◌+◌, ◌≤◌, ◌<◌, ◌≡◌, List, [], ◌++◌, length, get_or, take, drop}
use Rattle.std.proofs.Common.{ap, ◌∙◌, subst, arith, add-one, drop_of_length-le, drop-cons, get_or-take, length-take-le}
use Rattle.lists.specs.Lists.{splice}
use Rattle.lines.specs.Lines.{decimal_line}
use Rattle.lines.specs.Reading.{count, form_line}
use Rattle.text_rules.specs.Records.{texts, section_text}
use Rattle.text_rules.specs.Laws.{texts_none, texts_first}
use Rattle.buffers.specs.Buffers.{put}
use Rattle.buffers.specs.Laws.{Writing, writing_start, writing_put, writing_next, writing_room, writing_done}
use Rattle.buffers.specs.Positions.{behind}

module _ {A : Type 0} (text : A → List ℕ) (list : List A) (n : ℕ) where
  -- behind the count line the things are left
  pub section_start : (key : List ℕ) (limit at : ℕ) {old : List ℕ} {end : ℕ} {new : List ℕ} → n ≤ length list →
      at + length (section_text key limit text (take n list)) ≤ length old →
      end ≡ behind at (decimal_line key n) old → new ≡ put at (decimal_line key n) old →
      Writing at (section_text key limit text (take n list)) old (texts text (take n list)) end new
  section_start key limit at {old} {end} {new} inside room place written =
      let whole = section_text key limit text (take n list) in
      let same : form_line (count key limit) (length (take n list)) ++ texts text (take n list) ≡ decimal_line key n ++ texts text (take n list) =
      ap (λ (m : ℕ). decimal_line key m ++ texts text (take n list)) (length-take-le n list inside) in
      let begun = subst (λ (rest : List ℕ). Writing at whole old rest at old) same (writing_start at whole old) in
      writing_put (decimal_line key n) (texts text (take n list)) room begun place written

  -- the things are written up to place i
  abbrev pub Going : ℕ → List ℕ → ℕ → ℕ → List ℕ → Type 0
  Going start old i end new = Writing start (texts text (take n list)) old (texts text (drop i (take n list))) end new

  -- the next thing, and those behind it
  things_next : (none : A) (i : ℕ) → n ≤ length list → i < n →
      texts text (drop i (take n list)) ≡ text (get_or list i none) ++ texts text (drop (i + 1) (take n list))
  things_next none i inside more =
      ap (texts text) (drop-cons (take n list) i none (omega (arith, length-take-le n list inside)))
      ∙ texts_first text (get_or (take n list) i none) (drop (suc i) (take n list))
      ∙ rw (get_or-take n list i none more, add-one)

  module _ {start : ℕ} {old : List ℕ} {i end : ℕ} {new : List ℕ} (none : A) (inside : n ≤ length list) where
    going_rest : i < n → Going start old i end new →
        Writing start (texts text (take n list)) old (text (get_or list i none) ++ texts text (drop (i + 1) (take n list))) end new
    going_rest more w =
        subst (λ (rest : List ℕ). Writing start (texts text (take n list)) old rest end new) (things_next none i inside more) w

    -- the next thing fits
    pub going_room : start + length (texts text (take n list)) ≤ length old → i < n → Going start old i end new →
        end + length (text (get_or list i none)) ≤ length new
    going_room room more w = writing_room (text (get_or list i none)) (texts text (drop (i + 1) (take n list))) room (going_rest more w)

    -- the next thing is written
    pub going_next : {next : ℕ} {then : List ℕ} → start + length (texts text (take n list)) ≤ length old → i < n → Going start old i end new →
        next ≡ end + length (text (get_or list i none)) → then ≡ splice end (text (get_or list i none)) new → Going start old (i + 1) next then
    going_next room more w place written =
        writing_next (text (get_or list i none)) (texts text (drop (i + 1) (take n list))) room (going_rest more w) place written

    -- behind the last thing nothing is left
    pub going_done : n ≤ i → Going start old i end new → (end ≡ start + length (texts text (take n list))) × (new ≡ splice start (texts text (take n list)) old)
    going_done past w =
        let nothing : texts text (drop i (take n list)) ≡ [] =
        let all : length (take n list) ≤ i = omega (arith, length-take-le n list inside) in
        ap (texts text) (drop_of_length-le (take n list) all) ∙ texts_none text in
        writing_done (subst (λ (rest : List ℕ). Writing start (texts text (take n list)) old rest end new) nothing w)
