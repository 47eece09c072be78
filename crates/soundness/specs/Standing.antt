-- Laws: Claims judged over those before them, from the front. One that is not as it should be makes every longer list fail; so does an id that
-- stands twice. Assumes nothing.
use Rattle.std.specs.Prelude.{◌≡◌, true, false, ◌&&◌, List, [], ◌∷◌, ◌++◌, map, ℕ, zero, suc, ◌+◌, ◌≤◌, ◌<◌, eqb, length, take, drop, get_or}
use Rattle.std.proofs.Common.{sym, ap, ◌∙◌, add-one, arith, take-append-drop, take-suc, take-take}
use Rattle.std.proofs.Math.Bool.{and-false}
use Rattle.std.proofs.lemmas.List.{reverse-append, length-map}
use Rattle.std.proofs.Math.ListN.{get_or-map}
use Rattle.lists.specs.Tests.{clash, and_left, and_right}
use Rattle.lists.specs.Lists.{any, distinct}
use Rattle.lists.specs.Distinct.{distinct_nil, distinct_last}
use Rattle.register.specs.Register.{no_claim}
use Rattle.register.specs.Chain.{latest}
use Rattle.register.specs.declared.Claim.{Claim}
use Rattle.columns.specs.Columns.{claim_id, latest_place}
use Rattle.columns.specs.Laws.{place_cases, nowhere_none}
use Rattle.soundness_rules.specs.Sound.{over}
use Rattle.claim_judging.specs.Over.{stand_over}
use Rattle.claim_judging.specs.OverLaws.{doubled, stand_cons}

-- one claim more, and a longer list
module _ (version : ℕ) (cs : List Claim) where
  pub stand_next : (i : ℕ) → i < length cs
      → stand_over version (latest (take (i + 1) cs)) ≡ over version (latest (take i cs)) (get_or cs i no_claim) && stand_over version (latest (take i cs))
  stand_next i h =
      rw (add-one, take-suc cs i no_claim h, reverse-append (take i cs) (get_or cs i no_claim ∷ [])) (stand_cons version (get_or cs i no_claim) (latest (take i cs)))

  stand_behind : (L M : List Claim) → stand_over version M ≡ false → stand_over version (L ++ M) ≡ false
  stand_behind [] M h = h
  stand_behind (c ∷ L) M h = stand_cons version c (L ++ M) ∙ rw (stand_behind L M h) (and-false (over version (L ++ M) c))

  pub stand_failed : (i n : ℕ) → i < length cs → i < n → over version (latest (take i cs)) (get_or cs i no_claim) ≡ false → stand_over version (latest (take n cs)) ≡ false
  stand_failed i n h longer fails =
      let up_to : i + 1 ≤ n = omega arith in
      let first = take (i + 1) (take n cs) in
      let rest = drop (i + 1) (take n cs) in
      let short : stand_over version (latest first) ≡ false = rw (take-take (i + 1) n cs up_to) (stand_next i h ∙ rw fails) in
      ap (λ l. stand_over version (latest l)) (sym (take-append-drop (i + 1) (take n cs)))
      ∙ ap (stand_over version) (reverse-append first rest)
      ∙ stand_behind (latest rest) (latest first) short

  -- the ids of claims that are as they should be are distinct
  pub stand_distinct : (n : ℕ) → n ≤ length cs → stand_over version (latest (take n cs)) ≡ true → distinct (take n (map claim_id cs)) ≡ true
  stand_distinct zero short h = distinct_nil
  stand_distinct (suc n) short h =
      let c = get_or cs n no_claim in
      let inside : n < length (map claim_id cs) = omega (arith, short, length-map cs claim_id) in
      let told : over version (latest (take n cs)) c && stand_over version (latest (take n cs)) ≡ true =
      sym (stand_next n (omega arith)) ∙ rw (add-one n) h in
      let single : any (eqb c.id) (take n (map claim_id cs)) ≡ false =
      place_cases (latest_place (map claim_id cs) n c.id)
      (λ k q. clash (over version (latest (take n cs)) c) (and_left (over version (latest (take n cs)) c) (stand_over version (latest (take n cs))) told) (doubled version cs n c k q))
      (λ q. nowhere_none (map claim_id cs) c.id n q) in
      rw (take-suc (map claim_id cs) n 0, get_or-map claim_id cs n no_claim)
      (distinct_last (take n (map claim_id cs)) c.id
      (stand_distinct n (omega arith) (and_right (over version (latest (take n cs)) c) (stand_over version (latest (take n cs))) told))
      single)
