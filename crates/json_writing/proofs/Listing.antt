-- The resources used with a right, written use by use: what is left of them at each place, and behind the last. Assumes nothing.
use Rattle.std.proofs.Common.{ℕ, ◌+◌, ◌≤◌, ◌<◌, min, ◌≡◌, sym, ap, ◌∙◌, subst, List, ◌∷◌, ◌++◌, Bool, false, eq-eqb, ne_eqb, length, get_or, take, drop, drop_of_length-le}
use Rattle.std.proofs.lemmas.List.{take_min}
use Rattle.lists.specs.Loops.{drop_next}
use Rattle.lists.specs.Lists.{splice}
use Rattle.actions.specs.Actions.{use_limit, uses_of}
use Rattle.actions.specs.declared.Action.{Action}
use Rattle.actions.specs.declared.Usage.{Usage}
use Rattle.buffers.specs.Laws.{Writing, writing_room, writing_next, writing_done}
use Rattle.json_writing.specs.Pieces.{resource_entry, resources_from, resources_text}

-- as many uses as the array has room for are all that are used
pub all_used : (a : Action) {top : ℕ} → length a.uses ≡ use_limit → top ≡ min a.used use_limit → take top a.uses ≡ uses_of a
all_used a room least =
    let most : min a.used use_limit ≡ min a.used (length a.uses) = ap (min a.used) (sym room) in rw (least, most) (take_min a.used a.uses)

-- of some uses the first is written, or passed over
resources_taken : (first : Bool) (b : ℕ) (u : Usage) (us : List Usage) → u.right ≡ b
    → resources_from first b (u ∷ us) ≡ resource_entry first u.resource ++ resources_from false b us
unfolding resources_from
resources_taken first b u us same = rw (eq-eqb u.right b same)

resources_passed : (first : Bool) (b : ℕ) (u : Usage) (us : List Usage) → (u.right ≡ b → ⊥) → resources_from first b (u ∷ us) ≡ resources_from first b us
unfolding resources_from
resources_passed first b u us other = rw (ne_eqb u.right b other)

module _ (b : ℕ) (us : List Usage) where
  -- the uses are written up to place i
  abbrev pub Listing : ℕ → List ℕ → Bool → ℕ → ℕ → List ℕ → Type 0
  Listing at old first i end new = Writing at (resources_text b us) old (resources_from first b (drop i us)) end new

  module _ (none : Usage) {at : ℕ} {old : List ℕ} (first : Bool) (i : ℕ) {end : ℕ} {new : List ℕ} (inside : i < length us)
      (w : Listing at old first i end new) where
    listing_rest : {rest : List ℕ} → resources_from first b (get_or us i none ∷ drop (i + 1) us) ≡ rest
        → Writing at (resources_text b us) old rest end new
    listing_rest {rest} same =
        subst (λ (l : List ℕ). Writing at (resources_text b us) old l end new) (ap (resources_from first b) (drop_next us i none inside) ∙ same) w

    listing_taken : (get_or us i none).right ≡ b
        → Writing at (resources_text b us) old (resource_entry first (get_or us i none).resource ++ resources_from false b (drop (i + 1) us)) end new
    listing_taken same = listing_rest (resources_taken first b (get_or us i none) (drop (i + 1) us) same)

    -- a use with another right is passed over
    pub listing_passed : ((get_or us i none).right ≡ b → ⊥) → Listing at old first (i + 1) end new
    listing_passed other = listing_rest (resources_passed first b (get_or us i none) (drop (i + 1) us) other)

    module _ (room : at + length (resources_text b us) ≤ length old) (same : (get_or us i none).right ≡ b) where
      -- the next resource fits
      pub listing_room : end + length (resource_entry first (get_or us i none).resource) ≤ length new
      listing_room = writing_room (resource_entry first (get_or us i none).resource) (resources_from false b (drop (i + 1) us)) room (listing_taken same)

      -- the next resource is written
      pub listing_next : {next : ℕ} {then : List ℕ} → next ≡ end + length (resource_entry first (get_or us i none).resource)
          → then ≡ splice end (resource_entry first (get_or us i none).resource) new → Listing at old false (i + 1) next then
      listing_next place written =
          writing_next (resource_entry first (get_or us i none).resource) (resources_from false b (drop (i + 1) us)) room (listing_taken same)
          place written

  -- behind the last use nothing is left
  pub listing_done : {at : ℕ} {old : List ℕ} (first : Bool) (i : ℕ) {end : ℕ} {new : List ℕ} → length us ≤ i → Listing at old first i end new
      → (end ≡ at + length (resources_text b us)) × (new ≡ splice at (resources_text b us) old)
  unfolding resources_from
  listing_done {at} {old} first i {end} {new} past w =
      writing_done (subst (λ (l : List Usage). Writing at (resources_text b us) old (resources_from first b l) end new)
      (drop_of_length-le us past) w)
