-- Outside version 2 registers whose claims differ in what they hold as left are the same. Assumes nothing.
use Rattle.std.proofs.Common.{◌≡◌, refl, ap, sym, ◌∙◌, false, List, [], ◌∷◌, map, ℕ, take}
use Rattle.lists.specs.Each.{take_map}
use Rattle.register.specs.Limits.{tells_left}
use Rattle.register.specs.Register.{claims_of, with_left, Same, with_claims}
use Rattle.register.specs.Laws.{bare, claims_untold}
use Rattle.register.specs.declared.Claim.{Claim}
use Rattle.register.specs.declared.Register.{Register}

bare_changed : (n : Claim → ℕ) (L : List Claim) → map bare (map (λ c. with_left (n c) c) L) ≡ map bare L
bare_changed n [] = refl
bare_changed n (c ∷ L) = ap (λ K. bare c ∷ K) (bare_changed n L)

pub left_unasked : (r : Register) → tells_left r.version ≡ false → (n : Claim → ℕ)
    → Same (with_claims r (record { list = map (λ c. with_left (n c) c) r.claims.list; count = r.claims.count })) r
left_unasked r untold n =
    let changed : (Claim → Claim) = λ c. with_left (n c) c in
    record {
      actor_count = refl;
      actors = refl;
      resource_count = refl;
      resources = refl;
      claim_count = refl;
      claims = claims_untold r.version untold (take r.claims.count (map changed r.claims.list))
          ∙ ap (map bare) (take_map changed r.claims.count r.claims.list)
          ∙ bare_changed n (claims_of r.claims)
          ∙ sym (claims_untold r.version untold (claims_of r.claims));
      version = refl;
    }
