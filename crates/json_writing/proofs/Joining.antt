-- Texts of parts that are put one behind the other: the last part of any of them, a flag and whether it is set, all flags.
-- Assumes nothing.
use Rattle.std.proofs.Common.{ℕ, suc, ◌+◌, ◌≤◌, ◌≡◌, ◌∙◌, List, ◌++◌, Bool, cond, length, length-append}
use Rattle.lists.specs.Lists.{splice}
use Rattle.buffers.specs.Buffers.{put}
use Rattle.buffers.specs.Laws.{Writing, put_fits, writing_start, writing_put, writing_next, writing_left, writing_last, writing_done}
use Rattle.actions.specs.Actions.{flag_count}
use Rattle.buffers.specs.Positions.{behind}
use Rattle.json_tokens.specs.Tokens.{true_word, false_word}
use Rattle.json_rules.specs.Actions.{is_set}
use Rattle.json_writing.specs.Pieces.{setting_text, flag_text, flags_from, flags_text}

-- all that is left is put
pub put_last : {at : ℕ} {whole old part : List ℕ} {end next : ℕ} {new then : List ℕ} → at + length whole ≤ length old
    → Writing at whole old part end new → next ≡ behind end part new → then ≡ put end part new
    → (next ≡ at + length whole) × (then ≡ splice at whole old)
put_last {part = part} {end} {new = new} room w place written =
    let fit = put_fits end part new (writing_left room w) in writing_last room w (place ∙ fit.1) (written ∙ fit.0)

-- the word behind a flag's name
pub setting_written : (name : List ℕ) (flags flag at : ℕ) (old : List ℕ) (on : Bool) {end next : ℕ} {new then : List ℕ} → is_set flags flag ≡ on
    → at + length (setting_text name flags flag) ≤ length old
    → end ≡ behind at name old → new ≡ put at name old
    → next ≡ behind end (cond on true_word false_word) new → then ≡ put end (cond on true_word false_word) new
    → (next ≡ at + length (setting_text name flags flag)) × (then ≡ splice at (setting_text name flags flag) old)
setting_written name flags flag at old on set room place written further also =
    let word = cond (is_set flags flag) true_word false_word in
    put_last room (writing_put name word room (writing_start at (name ++ word) old) place written) (rw set further) (rw set also)

-- the flags are written up to flag i, and n of them are left
abbrev pub Flagging : ℕ → ℕ → List ℕ → ℕ → ℕ → ℕ → List ℕ → Type 0
Flagging flags at old i n end new = Writing at (flags_text flags) old (flags_from flags i n) end new

pub flagging_start : (flags at : ℕ) (old : List ℕ) → Flagging flags at old 0 flag_count at old
flagging_start flags at old = writing_start at (flags_text flags) old

module _ (flags : ℕ) {at : ℕ} {old : List ℕ} (i n : ℕ) {end : ℕ} {new : List ℕ} (room : at + length (flags_text flags) ≤ length old)
    (w : Flagging flags at old i (suc n) end new) where
  -- the next flag is written
  pub flagging_next : {next : ℕ} {then : List ℕ} → next ≡ end + length (setting_text (flag_text i) flags i)
      → then ≡ splice end (setting_text (flag_text i) flags i) new → Flagging flags at old (suc i) n next then
  unfolding flags_from
  flagging_next place written = writing_next (setting_text (flag_text i) flags i) (flags_from flags (suc i) n) room w place written

-- how long the ten flags are
flags_more : (flags i n : ℕ) → length (flags_from flags i (suc n)) ≡ length (setting_text (flag_text i) flags i) + length (flags_from flags (suc i) n)
unfolding flags_from
flags_more flags i n = length-append (setting_text (flag_text i) flags i) (flags_from flags (suc i) n)

abbrev setting_length : ℕ → ℕ → ℕ
setting_length flags i = length (setting_text (flag_text i) flags i)

pub flags_length : (flags : ℕ) → let l = setting_length flags in
    length (flags_text flags) ≡ l 0 + (l 1 + (l 2 + (l 3 + (l 4 + (l 5 + (l 6 + (l 7 + (l 8 + (l 9 + 0)))))))))
unfolding flags_from
flags_length flags =
    rw (
      flags_more flags 0 9,
      flags_more flags 1 8,
      flags_more flags 2 7,
      flags_more flags 3 6,
      flags_more flags 4 5,
      flags_more flags 5 4,
      flags_more flags 6 3,
      flags_more flags 7 2,
      flags_more flags 8 1,
      flags_more flags 9 0,
    )

-- behind the last flag nothing is left
pub flagging_done : (flags : ℕ) {at : ℕ} {old : List ℕ} (i : ℕ) {end : ℕ} {new : List ℕ} → Flagging flags at old i 0 end new
    → (end ≡ at + length (flags_text flags)) × (new ≡ splice at (flags_text flags) old)
unfolding flags_from
flagging_done flags i w = writing_done w
