-- The text of a verdict's violations, put entry by entry. Assumes nothing.
use Rattle.std.proofs.Common.{ℕ, ◌+◌, ◌≤◌, ◌≡◌, refl, ap, subst, List, [], ◌∷◌, ◌++◌, map, length, take}
use Rattle.actions.specs.declared.Violated.{Violated}
use Rattle.actions.specs.declared.Violations.{Violations}
use Rattle.lines.specs.Lines.{decimal_line}
use Rattle.text_rules.specs.Records.{texts}
use Rattle.buffers.specs.Buffers.{put}
use Rattle.buffers.specs.Laws.{Writing, writing_start, writing_put}
use Rattle.buffers.specs.Positions.{behind}
use Rattle.verdict_printing.specs.Printed.{violations_key, violations_in, pair_text, list_text}

-- the pair of the violation that an entry keeps
abbrev pub entry_text : Violated → List ℕ
entry_text e = pair_text e.what

pub entries_pairs : (entries : List Violated) → texts pair_text (map (λ e. e.what) entries) ≡ texts entry_text entries
unfolding texts
entries_pairs [] = refl
entries_pairs (e ∷ entries) = ap (λ (t : List ℕ). entry_text e ++ t) (entries_pairs entries)

-- behind the line of their number the entries are left
pub list_start : (vs : Violations) {at end : ℕ} {old new : List ℕ} → at + length (list_text vs) ≤ length old
    → end ≡ behind at (decimal_line violations_key vs.count) old → new ≡ put at (decimal_line violations_key vs.count) old
    → Writing at (list_text vs) old (texts entry_text (take vs.count vs.list)) end new
unfolding list_text
list_start vs {at} {end} {old} {new} room place written =
    subst (λ (rest : List ℕ). Writing at (list_text vs) old rest end new) (entries_pairs (take vs.count vs.list))
    (writing_put (decimal_line violations_key vs.count) (texts pair_text (violations_in vs)) room (writing_start at (list_text vs) old) place written)
