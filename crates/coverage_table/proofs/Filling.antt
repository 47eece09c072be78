-- Laws: The table of the walk, cell by cell: each cell is a walk of its own over the remarks, and what is looked up is what stands there. Assumes nothing.
use Rattle.std.proofs.Common.{◌≡◌, refl, Bool, true, false, ℕ, suc, zero, ◌≤◌, ◌<◌, ◌+◌, sym, ◌∙◌, arith, eqb-true, ne_eqb, ltb-true, ltb-false, List, [], ◌∷◌, ◌++◌, map, append_assoc, append-nil}
use Rattle.std.proofs.Math.Path.{ap}
use mathlib.Core.List.{reverse-cons}
use Rattle.std.proofs.lemmas.Bool.{eqb-false}
use Rattle.std.proofs.Math.Dec.{eqb}
use Rattle.lists.specs.Tests.{cases}
use Rattle.lists.specs.Lists.{counted}
use Rattle.rights.specs.Rights.{the_rights, is_right, right_count}
use Rattle.register.specs.Register.{resources_of, claims_of}
use Rattle.register.specs.Chain.{latest}
use Rattle.register.specs.declared.Resource.{Resource}
use Rattle.register.specs.declared.Claim.{Claim}
use Rattle.register.specs.declared.Register.{Register}
use Rattle.soundness_rules.specs.Sound.{World, sound_claims, sound}
use Rattle.soundness_rules.proofs.Registers.{sound_out}
use Rattle.actions.specs.declared.Usage.{Usage}
use Rattle.gate_rules.specs.Gate.{first_of}
use Rattle.gate_rules.specs.Places.{first_hit, first_miss, first_none}
use Rattle.coverage_table.specs.Table.{Remark, Entry, nothing, Cell, Row, remark_on, open_entry, open_row, entry_after, row_after, walked, paper_of, cover_table, cells_in, entry_in, looked_up}
use Rattle.coverage_table.specs.Hearing.{remark_among, heard}
use Rattle.coverage_table.proofs.Remarks.{world_around, remarks_on, remark_place, remarks_among}

-- ---- lookups

-- the first of a list read through f
first_map : {A B : Type 0} (f : A → B) (p : B → Bool) (L : List A) → first_of p (map f L) ≡ map f (first_of (λ a. p (f a)) L)
unfolding first_of
first_map f p [] = refl
first_map f p (a ∷ L) = cases (p (f a)) (λ e. rw e) (λ e. rw e (first_map f p L))

first_counted : (b i n : ℕ) → i ≤ b → b < i + n → first_of (λ c. eqb b c) (counted i n) ≡ b ∷ []
first_counted b i zero low high = absurd (omega arith)
first_counted b i (suc n) low high =
    cases (eqb b i)
    (λ e. first_hit (λ c. eqb b c) i (counted (suc i) n) e ∙ ap (λ k. k ∷ []) (sym (eqb-true b i e)))
    (λ e. let other : (b ≡ i → ⊥) = eqb-false b i e in
    first_miss (λ c. eqb b c) i (counted (suc i) n) e ∙ first_counted b (suc i) n (omega (arith, low, other)) (omega (arith, high)))

first_right : (b : ℕ) → is_right b ≡ true → first_of (λ c. eqb b c) the_rights ≡ b ∷ []
first_right b h = let below = ltb-true b right_count h in first_counted b 0 17 (omega arith) (omega (arith, below))

past_counted : (b i n : ℕ) → i + n ≤ b → first_of (λ c. eqb b c) (counted i n) ≡ []
past_counted b i zero past = first_none (λ c. eqb b c) [] refl
past_counted b i (suc n) past =
    first_miss (λ c. eqb b c) i (counted (suc i) n) (ne_eqb b i (omega (arith, past))) ∙ past_counted b (suc i) n (omega (arith, past))

past_right : (b : ℕ) → is_right b ≡ false → first_of (λ c. eqb b c) the_rights ≡ []
past_right b h = let past = ltb-false b right_count h in past_counted b 0 17 (omega (arith, past))

-- ---- a table by its entries

-- the table that has these entries
abbrev pub row_by : (Resource → ℕ → Entry) → Resource → Row
row_by e o = record { resource = o; cells = map (λ b. record { right = b; entry = e o b }) the_rights }

abbrev pub table_by : (Resource → ℕ → Entry) → List Resource → List Row
table_by e resources = map (row_by e) resources

-- one claim more, cell by cell
table_after : (r : Register) (x : ℕ) (n : Remark) (e : Resource → ℕ → Entry) (resources : List Resource)
    → map (row_after r x n) (table_by e resources) ≡ table_by (λ o b. entry_after r x o b n (e o b)) resources
table_after r x n e [] = refl
table_after r x n e (o ∷ resources) = ap (λ rows. row_by (λ o b. entry_after r x o b n (e o b)) o ∷ rows) (table_after r x n e resources)

-- the remarks that a walk adds, first to last
abbrev pub remarks_added : ℕ → List Remark → List Claim → List Remark
remarks_added moment remarks [] = []
remarks_added moment remarks (c ∷ cs) = let n = remark_on moment remarks c in n ∷ remarks_added moment (n ∷ remarks) cs

pub rows_walked : (r : Register) (moment x : ℕ) (resources : List Resource) (cs : List Claim) (remarks : List Remark) (e : Resource → ℕ → Entry)
    → (walked r moment x (record { remarks = remarks; rows = table_by e resources }) cs).rows
    ≡ table_by (λ o b. heard r x o b (remarks_added moment remarks cs) (e o b)) resources
rows_walked r moment x resources [] remarks e = refl
rows_walked r moment x resources (c ∷ cs) remarks e =
    let n = remark_on moment remarks c in
    ap (λ rows. (walked r moment x (record { remarks = n ∷ remarks; rows = rows }) cs).rows) (table_after r x n e resources)
    ∙ rows_walked r moment x resources cs (n ∷ remarks) (λ o b. entry_after r x o b n (e o b))

pub remarks_walked : (r : Register) (moment x : ℕ) (cs K : List Claim) (rows : List Row)
    → (walked r moment x (record { remarks = remarks_on moment K; rows = rows }) cs).remarks ≡ remarks_on moment (latest cs ++ K)
remarks_walked r moment x [] K rows = refl
remarks_walked r moment x (c ∷ cs) K rows =
    remarks_walked r moment x cs (c ∷ K) (map (row_after r x (remark_on moment (remarks_on moment K) c)) rows)
    ∙ ap (remarks_on moment) (sym (ap (λ l. l ++ K) (reverse-cons c cs) ∙ append_assoc (latest cs) (c ∷ []) K))

-- in a sound list each remark that a walk adds is what the claim's chain among all says
pub added_natural : (w : World) (moment : ℕ) (cs K : List Claim) → sound_claims w (latest cs ++ K) ≡ true
    → remarks_added moment (remarks_on moment K) cs ≡ map (remark_among moment (latest cs ++ K)) cs
added_natural w moment [] K h = refl
added_natural w moment (c ∷ cs) K h =
    let turned : latest (c ∷ cs) ++ K ≡ latest cs ++ c ∷ K = ap (λ l. l ++ K) (reverse-cons c cs) ∙ append_assoc (latest cs) (c ∷ []) K in
    let sound : sound_claims w (latest cs ++ c ∷ K) ≡ true = rw turned at h in
    ap (λ l. remark_on moment (remarks_on moment K) c ∷ l) (added_natural w moment cs (c ∷ K) sound)
    ∙ ap (λ n. n ∷ map (remark_among moment (latest cs ++ c ∷ K)) cs) (remark_place moment w (latest cs) c K sound)
    ∙ ap (λ all. map (remark_among moment all) (c ∷ cs)) (sym turned)

-- what is looked up in a table by its entries: the entry of the resource and the right; nothing of a resource that does not stand, nor of what
-- is no right
module _ (e : Resource → ℕ → Entry) (resources : List Resource) (u : Usage) where
  abbrev cell : Resource → ℕ → Cell
  cell o b = record { right = b; entry = e o b }

  row_looked_up : (K : List Resource) → first_of (λ o. eqb u.resource o.id) resources ≡ K
      → looked_up (table_by e resources) u ≡ entry_in (first_of (λ c. eqb u.right c.right) (cells_in (map (row_by e) K)))
  unfolding looked_up
  row_looked_up K found =
      ap (λ rows. entry_in (first_of (λ c. eqb u.right c.right) (cells_in rows)))
      (first_map (row_by e) (λ row. eqb u.resource row.resource.id) resources ∙ ap (map (row_by e)) found)

  cell_found : (o : Resource) (M : List ℕ) → first_of (λ b. eqb u.right b) the_rights ≡ M
      → entry_in (first_of (λ c. eqb u.right c.right) (cells_in (map (row_by e) (o ∷ [])))) ≡ entry_in (map (cell o) M)
  cell_found o M found = ap entry_in (first_map (cell o) (λ c. eqb u.right c.right) the_rights ∙ ap (map (cell o)) found)

  pub lookup_there : (o : Resource) → first_of (λ o. eqb u.resource o.id) resources ≡ o ∷ [] → is_right u.right ≡ true
      → looked_up (table_by e resources) u ≡ e o u.right
  lookup_there o found right = row_looked_up (o ∷ []) found ∙ cell_found o (u.right ∷ []) (first_right u.right right)

  pub lookup_past : (o : Resource) → first_of (λ o. eqb u.resource o.id) resources ≡ o ∷ [] → is_right u.right ≡ false
      → looked_up (table_by e resources) u ≡ nothing
  lookup_past o found right = row_looked_up (o ∷ []) found ∙ cell_found o [] (past_right u.right right)

  pub lookup_absent : first_of (λ o. eqb u.resource o.id) resources ≡ [] → looked_up (table_by e resources) u ≡ nothing
  lookup_absent found = row_looked_up [] found ∙ ap entry_in (first_none (λ c. eqb u.right c.right) [] refl)

-- ---- the paper of a register

module _ (r : Register) (moment x : ℕ) where
  -- its table, cell by cell
  pub table_heard : cover_table r moment x
      ≡ table_by (λ o b. heard r x o b (remarks_added moment [] (claims_of r.claims)) (open_entry o b)) (resources_of r.resources)
  unfolding paper_of
  table_heard = rows_walked r moment x (resources_of r.resources) (claims_of r.claims) [] open_entry

  -- its remarks, latest first
  pub paper_remarks : (paper_of r moment x).remarks ≡ remarks_on moment (latest (claims_of r.claims))
  unfolding paper_of
  paper_remarks = remarks_walked r moment x (claims_of r.claims) [] (map open_row (resources_of r.resources)) ∙ ap (remarks_on moment) (append-nil (latest (claims_of r.claims)))

  -- in a sound register they are what the chains among all claims say
  pub remarks_standing : sound r ≡ true → (paper_of r moment x).remarks ≡ map (remark_among moment (latest (claims_of r.claims))) (latest (claims_of r.claims))
  remarks_standing h = paper_remarks ∙ remarks_among moment (world_around r) [] (latest (claims_of r.claims)) (sound_out r h).claims

  -- and so are those that the walk adds, first to last
  pub added_sound : sound r ≡ true → remarks_added moment [] (claims_of r.claims) ≡ map (remark_among moment (latest (claims_of r.claims))) (claims_of r.claims)
  added_sound h =
      let all : latest (claims_of r.claims) ++ [] ≡ latest (claims_of r.claims) = append-nil (latest (claims_of r.claims)) in
      added_natural (world_around r) moment (claims_of r.claims) [] (rw all (sound_out r h).claims)
      ∙ ap (λ l. map (remark_among moment l) (claims_of r.claims)) all
