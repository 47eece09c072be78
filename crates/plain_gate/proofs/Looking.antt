-- What the number in a cell tells of the entry: whether it is nothing, and its hop count. Assumes nothing.
use Rattle.std.proofs.Common.{◌≡◌, sym, ap, ◌∙◌, List, ℕ, ◌+◌, ◌-◌, ◌*◌, ◌%◌, ◌≤◌, ◌<◌, mod-eq_of_lt, arith, ne_eqb, le-ltb, eqb, get_or}
use native.Mathlib.Nat.{add-mul-mod_self_left}
use Rattle.register.specs.Limits.{claim_limit}
use Rattle.register.specs.Register.{claims_of}
use Rattle.register.specs.Chain.{latest, hops_of}
use Rattle.register.specs.declared.Register.{Register}
use Rattle.coverage_table.specs.Table.{Entry, nothing, openly, claimed, is_nothing, entry_hops}
use Rattle.paper.specs.Cells.{first_number}
use Rattle.paper.specs.Paper.{claim_stands, CellTells}
use Rattle.plain_gate.specs.Cells.{hops_told}

module _ (r : Register) (i : ℕ) where
  -- nothing is 0, and nothing else is
  pub tells_nothing : (e : Entry) (n : ℕ) → CellTells r i e n → is_nothing e ≡ eqb n 0
  tells_nothing nothing n told = rw told
  tells_nothing openly n told = rw told
  tells_nothing (claimed c hops far) n told =
      let number = told.2 in
      sym (ne_eqb n 0 (omega (arith, number)))

  -- the place of a claim, out of its number
  place_told : (far p n : ℕ) → n ≡ first_number far + p → p < claim_limit → (n - 2) % claim_limit ≡ p
  place_told far p n number below =
      let inner : n - 2 ≡ p + claim_limit * far = omega (arith, number) in
      ap (λ k. k % claim_limit) inner ∙ add-mul-mod_self_left p claim_limit far ∙ mod-eq_of_lt below

  -- the hop count
  pub tells_hops : (hops : List ℕ) → i ≤ claim_limit → ((j : ℕ) → j < i → get_or hops j 0 ≡ hops_of (latest (claims_of r.claims)) (claim_stands r j))
      → (e : Entry) (n : ℕ) → CellTells r i e n → entry_hops e ≡ hops_told hops n
  tells_hops hops few remarked nothing n told = rw told
  tells_hops hops few remarked openly n told = rw told
  tells_hops hops few remarked (claimed c count far) n told =
      let p : ℕ = told.0 in
      let number = told.2 in
      let below : p < claim_limit = omega (arith, few, told.1) in
      rw (le-ltb n 2 (omega (arith, number)), place_told far p n number below)
      (told.4 ∙ ap (hops_of (latest (claims_of r.claims))) told.3 ∙ sym (remarked p told.1))
