-- Laws: An accepted grant appends one claim: no older chain changes, an older claim covers what it covered, and nobody but the holder covers more. Assumes
-- nothing.
use Rattle.std.specs.Prelude.{◌≡◌, refl, Bool, true, false, ◌||◌, [], ◌∷◌, ◌++◌, ℕ}
use Rattle.std.proofs.Math.Path.{ap, sym}
use Rattle.std.proofs.Common.{◌∙◌, eqb-true}
use Rattle.std.proofs.Math.Bool.{or-false}
use Rattle.lists.specs.Tests.{cases}
use Rattle.lists.specs.Lists.{any}
use Rattle.lists.specs.Each.{all_imp, any_same, any_append}
use Rattle.register.specs.Register.{claims_of, Shaped}
use Rattle.register.specs.Chain.{above, latest}
use Rattle.register.specs.declared.Claim.{Claim}
use Rattle.register.specs.declared.Register.{Register}
use Rattle.soundness_rules.specs.Sound.{sound}
use Rattle.soundness_rules.proofs.Laws.{drawn_stands}
use Rattle.soundness_rules.proofs.Places.{place_acceptable}
use Rattle.soundness_rules.proofs.Chains.{chain_earlier, place_above}
use Rattle.change_rules.specs.Changes.{world_in, standing, appended}
use Rattle.actions.specs.declared.Usage.{Usage}
use Rattle.gate_rules.specs.Gate.{public_read, contains, covering, covers}
use Rattle.gate_rules.specs.Authority.{IsIn}
use Rattle.gate_rules.specs.Places.{each_place, latest_split}
use Rattle.gate_rules.proofs.Coverage.{covering_out, sound_place}
use Rattle.change_rules.proofs.Grants.{GrantPassed, appended_claims, appended_standing, appended_fitting}

-- three tests joined either way round
or_split : (p q x : Bool) → (p || q) || x ≡ p || (q || x)
or_split true q x = refl
or_split false q x = refl

-- a claim of a sound register that has no chain above it among all is a root
older_stands : (r : Register) → sound r ≡ true → (d : Claim) → IsIn (claims_of r.claims) d → above (standing r) d ≡ [] → d.parent ≡ 0
older_stands r h d at none =
    let behind = sound_place r h d at in
    let whole : standing r ≡ latest at.after ++ d ∷ latest at.before = ap latest at.split ∙ latest_split at.before d at.after in
    drawn_stands r.version (latest at.before) d (place_acceptable (world_in r) (latest at.after) d (latest at.before) behind).over_earlier.chained
    (sym (place_above (world_in r) (latest at.after) d (latest at.before) behind) ∙ ap (λ L. above L d) (sym whole) ∙ none)

module _ (r : Register) (c : Claim) (moment : ℕ) (shaped : Shaped r) (h : GrantPassed r c moment) where
  -- no older chain changes
  pub older_above : (d : Claim) → IsIn (claims_of r.claims) d → above (standing (appended r c)) d ≡ above (standing r) d
  older_above d at =
      ap (λ L. above L d) (appended_standing r c moment shaped h)
      ∙ chain_earlier (world_in r) (c ∷ []) (standing r) (appended_fitting r c moment h) d.parent (older_stands r h.judged d at)

  -- the chain above the new claim is the one that the grant looked at
  pub new_above : above (standing (appended r c)) c ≡ above (standing r) c
  new_above =
      ap (λ L. above L c) (appended_standing r c moment shaped h)
      ∙ place_above (world_in r) [] c (standing r) (appended_fitting r c moment h)

  -- an older claim covers what it covered
  pub older_covering : (clock y : ℕ) (u : Usage) (d : Claim) → IsIn (claims_of r.claims) d
      → covering (appended r c) clock y u d ≡ covering r clock y u d
  unfolding covering contains
  older_covering clock y u d at = rw (older_above d at)

  -- so one covers where one did, or by the new claim
  pub appended_covers : (clock y : ℕ) (u : Usage) → covers (appended r c) clock y u ≡ covers r clock y u || covering (appended r c) clock y u c
  unfolding covers public_read
  appended_covers clock y u =
      ap (λ b. public_read r u || b) (
      ap (any (covering (appended r c) clock y u)) (appended_claims r c moment shaped h)
      ∙ any_append (covering (appended r c) clock y u) (claims_of r.claims) (c ∷ [])
      ∙ rw (
        or-false (covering (appended r c) clock y u c),
        any_same (covering (appended r c) clock y u) (covering r clock y u) (claims_of r.claims)
            (all_imp (λ d. IsIn (claims_of r.claims) d) (λ d. covering (appended r c) clock y u d ≡ covering r clock y u d)
            (λ d at. older_covering clock y u d at) (claims_of r.claims) (each_place (claims_of r.claims))),
      ))
      ∙ sym (or_split (public_read r u) (any (covering r clock y u) (claims_of r.claims)) (covering (appended r c) clock y u c))

  -- nobody but the holder covers more or less
  pub others_cover : (clock y : ℕ) (u : Usage) → (c.holder ≡ y → ⊥) → covers (appended r c) clock y u ≡ covers r clock y u
  others_cover clock y u other =
      appended_covers clock y u
      ∙ cases (covering (appended r c) clock y u c)
      (λ e. absurd (other (eqb-true c.holder y (covering_out (appended r c) clock y u c e).held)))
      (λ e. rw e (or-false (covers r clock y u)))

  -- who covered covers still
  pub covers_kept : (clock y : ℕ) (u : Usage) → covers r clock y u ≡ true → covers (appended r c) clock y u ≡ true
  covers_kept clock y u e = appended_covers clock y u ∙ rw e
