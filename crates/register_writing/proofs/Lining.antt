-- The text of numbers, a line for each, put line by line. Assumes nothing.
use Rattle.std.proofs.Common.{ℕ, ◌+◌, ◌≤◌, ◌≡◌, ap, ◌∙◌, cond, List, [], ◌∷◌, length}
use Rattle.lists.specs.Tests.{cases}
use Rattle.register.specs.Limits.{left_limit, tells_left}
use Rattle.text_rules.specs.Keys.{left_key}
use Rattle.lists.specs.Lists.{splice}
use Rattle.lines.specs.Lines.{decimal_line}
use Rattle.lines.specs.Reading.{LineForm, number, form_line}
use Rattle.text_rules.specs.Records.{lines_text}
use Rattle.buffers.specs.Buffers.{put}
use Rattle.buffers.specs.Laws.{Writing, writing_start, writing_put, writing_done}
use Rattle.buffers.specs.Positions.{behind}

-- a text is written but for the lines of these numbers
pub record Lining (at : ℕ) (whole old : List ℕ) (forms : List LineForm) (numbers : List ℕ) (end : ℕ) (new : List ℕ) : Type 0 where
  pub writing : Writing at whole old (lines_text forms numbers) end new

pub lining_start : (forms : List LineForm) (numbers : List ℕ) (at : ℕ) (old : List ℕ) → Lining at (lines_text forms numbers) old forms numbers at old
lining_start forms numbers at old = record { writing = writing_start at (lines_text forms numbers) old }

module _ {at : ℕ} {whole old : List ℕ} where
  -- the next line
  pub lining_next : {f : LineForm} {forms : List LineForm} {n : ℕ} {numbers : List ℕ} {end next : ℕ} {new then : List ℕ} →
      at + length whole ≤ length old → Lining at whole old (f ∷ forms) (n ∷ numbers) end new →
      next ≡ behind end (form_line f n) new → then ≡ put end (form_line f n) new → Lining at whole old forms numbers next then
  unfolding lines_text
  lining_next {f} {forms} {n} {numbers} room l place written =
      record { writing = writing_put (form_line f n) (lines_text forms numbers) room l.writing place written }

  -- a line of the hands left, where the version has one
  pub lining_left : (version left : ℕ) {f : LineForm} {n : ℕ} {end next : ℕ} {new then : List ℕ} → at + length whole ≤ length old
      → Lining at whole old (cond (tells_left version) (number left_key 0 left_limit ∷ f ∷ []) (f ∷ [])) (cond (tells_left version) (left ∷ n ∷ []) (n ∷ [])) end new
      → next ≡ cond (tells_left version) (behind end (decimal_line left_key left) new) end → then ≡ cond (tells_left version) (put end (decimal_line left_key left) new) new
      → Lining at whole old (f ∷ []) (n ∷ []) next then
  lining_left version left {f} {n} {end} {next} {new} {then} room l place written =
      cases (tells_left version)
      (λ t. lining_next room (rw t at l) (place ∙ ap (λ b. cond b (behind end (decimal_line left_key left) new) end) t)
      (written ∙ ap (λ b. cond b (put end (decimal_line left_key left) new) new) t))
      (λ u. let same : next ≡ end = place ∙ ap (λ b. cond b (behind end (decimal_line left_key left) new) end) u in
      let kept : then ≡ new = written ∙ ap (λ b. cond b (put end (decimal_line left_key left) new) new) u in
      rw (same, kept) (rw u at l))

  -- behind the last line
  pub lining_done : {numbers : List ℕ} {end : ℕ} {new : List ℕ} → Lining at whole old [] numbers end new →
      (end ≡ at + length whole) × (new ≡ splice at whole old)
  unfolding lines_text
  lining_done l = writing_done l.writing
