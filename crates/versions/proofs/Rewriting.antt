-- A register of version 1 and the same as version 2 has it are alike: they hold the same but for what claims hold as left, and both are sound or
-- neither. Assumes nothing.
use Rattle.std.proofs.Common.{◌≡◌, refl, ap, sym, ◌∙◌, Bool, false, List, [], ◌∷◌, ◌++◌, map, append-nil, ℕ, ◌+◌, ◌≤◌, ◌<◌, arith, ltb-true, ltb-false, ltb, length, take, drop, length-append, length-take, take-append-drop, drop_of_length-le, take_all, length-take-le}
use mathlib.Core.List.{reverse-reverse}
use lib.Seq.{take-append_seam}
use Rattle.lists.specs.Tests.{cases}
use Rattle.lists.specs.Lists.{ands}
use Rattle.lists.specs.Each.{reverse_map}
use Rattle.register.specs.Limits.{ranged, version_one, version_two, tells_left}
use Rattle.register.specs.Register.{actors_of, resources_of, claims_of, Shaped}
use Rattle.register.specs.Chain.{latest}
use Rattle.register.specs.Laws.{bare}
use Rattle.register.specs.declared.Claim.{Claim}
use Rattle.register.specs.declared.Register.{Register}
use Rattle.soundness_rules.specs.Sound.{world_of, sound_claims, sound_actors, sound_resources, within_limits, sound, each_stored}
use Rattle.soundness_rules.proofs.Alike.{each_stored_bare, stored_claims_length, sound_claims_two}
use Rattle.soundness_rules.proofs.Sameness.{Alike}
use Rattle.versions.specs.Versions.{as_two}

-- the first n of a list in whose place others were put, as many
take_replaced : (n : ℕ) (cs l : List Claim) → length cs ≡ length (take n l) → take n (cs ++ drop n l) ≡ cs
take_replaced n cs l long =
    cases (ltb n (length l))
    (λ e. let inside : n < length l = ltb-true n (length l) e in
    let full : length cs ≡ n = long ∙ length-take-le n l (omega (arith, inside)) in
    ap (λ k. take k (cs ++ drop n l)) (sym full) ∙ take-append_seam cs (drop n l))
    (λ e. let past : length l ≤ n = ltb-false n (length l) e in
    ap (λ m. take n (cs ++ m)) (drop_of_length-le l past) ∙ ap (take n) (append-nil cs)
    ∙ take_all n cs (omega (arith, long, length-take n l, past)))

pub two_claims : (r : Register) → claims_of (as_two r).claims ≡ latest (each_stored r.version (latest (claims_of r.claims)))
unfolding as_two
two_claims r = take_replaced r.claims.count (latest (each_stored r.version (latest (claims_of r.claims)))) r.claims.list
    (stored_claims_length r.version (claims_of r.claims))

two_standing : (r : Register) → latest (claims_of (as_two r).claims) ≡ each_stored r.version (latest (claims_of r.claims))
two_standing r = ap latest (two_claims r) ∙ reverse-reverse (each_stored r.version (latest (claims_of r.claims)))

two_bare : (r : Register) → map bare (claims_of (as_two r).claims) ≡ map bare (claims_of r.claims)
two_bare r =
    ap (map bare) (two_claims r)
    ∙ sym (reverse_map bare (each_stored r.version (latest (claims_of r.claims))))
    ∙ ap latest (each_stored_bare r.version (latest (claims_of r.claims)) ∙ sym (reverse_map bare (claims_of r.claims)))
    ∙ reverse-reverse (map bare (claims_of r.claims))

pub two_version : (r : Register) → (as_two r).version ≡ version_two
unfolding as_two
two_version r = refl

first_and_last : (a b c d e f g : Bool) → a ≡ f → e ≡ g → ands (a ∷ b ∷ c ∷ d ∷ e ∷ []) ≡ ands (f ∷ b ∷ c ∷ d ∷ g ∷ [])
first_and_last a b c d e f g p q = rw (p, q)

-- a register of version 1
module _ (r : Register) (one : r.version ≡ version_one) where
  untold : tells_left r.version ≡ false
  untold = ap tells_left one

  two_sound_claims : sound_claims (world_of version_two (actors_of r.actors) (resources_of r.resources)) (latest (claims_of (as_two r).claims))
      ≡ sound_claims (world_of r.version (actors_of r.actors) (resources_of r.resources)) (latest (claims_of r.claims))
  two_sound_claims =
      ap (sound_claims (world_of version_two (actors_of r.actors) (resources_of r.resources))) (two_standing r)
      ∙ sound_claims_two (world_of r.version (actors_of r.actors) (resources_of r.resources)) r.version untold (latest (claims_of r.claims))

  pub as_two_sound : sound (as_two r) ≡ sound r
  unfolding sound as_two within_limits
  as_two_sound =
      first_and_last _ (within_limits r) (sound_actors (actors_of r.actors)) (sound_resources (actors_of r.actors) (resources_of r.resources)) _ _ _
      (sym (ap (ranged version_one version_two) one)) two_sound_claims

  pub as_two_alike : Alike (as_two r) r
  unfolding as_two
  as_two_alike = record { actors = refl; resources = refl; claims = two_bare r; judged = as_two_sound }

-- it has the shape that the register has
pub as_two_shaped : (r : Register) → Shaped r → Shaped (as_two r)
unfolding as_two
as_two_shaped r h =
    let n : ℕ = r.claims.count in
    let l : List Claim = r.claims.list in
    record {
      actors = h.actors;
      resources = h.resources;
      paths = h.paths;
      claims = length-append (latest (each_stored r.version (latest (claims_of r.claims)))) (drop n l)
          ∙ ap (λ m. m + length (drop n l)) (stored_claims_length r.version (claims_of r.claims)) ∙ sym (length-append (take n l) (drop n l)) ∙ ap length (take-append-drop n l) ∙ h.claims;
    }
