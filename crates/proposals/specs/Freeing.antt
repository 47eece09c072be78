-- Laws: The least free id: it is no claim's, each below it is one's, and it is at most one more than there are claims. Assumes nothing.
use Rattle.std.specs.Prelude.{◌≡◌, refl, true, false, cond, List, [], ◌∷◌, ℕ, zero, suc, ◌+◌, ◌≤◌, ◌<◌, eqb, leb, length}
use Rattle.std.proofs.Common.{arith, eqb-true, leb-true, leb-false, le-leb}
use Rattle.std.proofs.lemmas.Bool.{eqb-false, lt-leb}
use Rattle.lists.specs.Tests.{cases, clash, or_other}
use Rattle.lists.specs.Lists.{any}
use Rattle.register.specs.declared.Claim.{Claim}
use Rattle.proposals.specs.Proposals.{free_from, least_free}

-- how many claims have an id from n on
unfoldable ids_from : ℕ → List Claim → ℕ
ids_from n [] = 0
ids_from n (c ∷ cs) = let more = ids_from n cs in cond (leb n c.id) (suc more) more

ids_from_hit : (n : ℕ) (c : Claim) (cs : List Claim) → n ≤ c.id → ids_from n (c ∷ cs) ≡ suc (ids_from n cs)
unfolding ids_from
ids_from_hit n c cs h = rw (le-leb n c.id h)

ids_from_miss : (n : ℕ) (c : Claim) (cs : List Claim) → c.id < n → ids_from n (c ∷ cs) ≡ ids_from n cs
unfolding ids_from
ids_from_miss n c cs h = rw (lt-leb n c.id h)

ids_from_few : (n : ℕ) (cs : List Claim) → ids_from n cs ≤ length cs
unfolding ids_from
ids_from_few n [] = omega arith
ids_from_few n (c ∷ cs) =
    let ih = ids_from_few n cs in
    cases (leb n c.id) (λ e. rw e (omega (arith, ih))) (λ e. rw e (omega (arith, ih)))

-- a number more: fewer, and fewer by one at least where n is an id
ids_from_fewer : (n : ℕ) (cs : List Claim) → ids_from (suc n) cs ≤ ids_from n cs
unfolding ids_from
ids_from_fewer n [] = omega arith
ids_from_fewer n (c ∷ cs) =
    let ih = ids_from_fewer n cs in
    cases (leb (suc n) c.id)
    (λ e. let high : suc n ≤ c.id = leb-true (suc n) c.id e in
    let low : n ≤ c.id = omega arith in rw (e, le-leb n c.id low) (omega (arith, ih)))
    (λ e. cases (leb n c.id) (λ k. rw (e, k) (omega (arith, ih))) (λ k. rw (e, k) (omega (arith, ih))))

ids_from_next : (n : ℕ) (cs : List Claim) → any (λ c. eqb n c.id) cs ≡ true → suc (ids_from (suc n) cs) ≤ ids_from n cs
ids_from_next n [] h = clash false h refl
ids_from_next n (c ∷ cs) h =
    cases (eqb n c.id)
    (λ e. let same : n ≡ c.id = eqb-true n c.id e in
    let fewer = ids_from_fewer n cs in
    rw (ids_from_hit n c cs (omega arith), ids_from_miss (suc n) c cs (omega arith)) (omega (arith, fewer)))
    (λ e. let other : (n ≡ c.id → ⊥) = eqb-false n c.id e in
    let ih = ids_from_next n cs (or_other (eqb n c.id) (any (λ c. eqb n c.id) cs) h e) in
    cases (leb n c.id)
    (λ k. let low : n ≤ c.id = leb-true n c.id k in
    let high : suc n ≤ c.id = omega arith in
    rw (ids_from_hit n c cs low, ids_from_hit (suc n) c cs high) (omega (arith, ih)))
    (λ k. let low : c.id < n = leb-false n c.id k in
    rw (ids_from_miss n c cs low, ids_from_miss (suc n) c cs (omega arith)) (omega (arith, ih))))

free_hit : (tries n : ℕ) (cs : List Claim) → any (λ c. eqb n c.id) cs ≡ true → free_from (suc tries) n cs ≡ free_from tries (suc n) cs
unfolding free_from
free_hit tries n cs e = rw e

free_miss : (tries n : ℕ) (cs : List Claim) → any (λ c. eqb n c.id) cs ≡ false → free_from (suc tries) n cs ≡ n
unfolding free_from
free_miss tries n cs e = rw e

free_end : (n : ℕ) (cs : List Claim) → free_from 0 n cs ≡ n
unfolding free_from
free_end n cs = refl

ids_from_none : (n : ℕ) (cs : List Claim) → ids_from n cs ≤ 0 → any (λ c. eqb n c.id) cs ≡ false
ids_from_none n cs h =
    cases (any (λ c. eqb n c.id) cs) (λ e. let fewer = ids_from_next n cs e in absurd (omega (arith, fewer))) (λ e. e)

-- where no more claims than tries have an id from n on, the number found is no claim's
free_found : (tries n : ℕ) (cs : List Claim) → ids_from n cs ≤ tries → any (λ c. eqb (free_from tries n cs) c.id) cs ≡ false
free_found zero n cs h = rw (free_end n cs) (ids_from_none n cs h)
free_found (suc tries) n cs h =
    cases (any (λ c. eqb n c.id) cs)
    (λ e. let fewer = ids_from_next n cs e in rw (free_hit tries n cs e) (free_found tries (suc n) cs (omega (arith, fewer))))
    (λ e. rw (free_miss tries n cs e) e)

free_from_least : (tries n : ℕ) (cs : List Claim) → n ≤ free_from tries n cs
free_from_least zero n cs = rw (free_end n cs) (omega arith)
free_from_least (suc tries) n cs =
    let ih = free_from_least tries (suc n) cs in
    cases (any (λ c. eqb n c.id) cs) (λ e. rw (free_hit tries n cs e) (omega (arith, ih))) (λ e. rw (free_miss tries n cs e) (omega arith))

free_from_greatest : (tries n : ℕ) (cs : List Claim) → free_from tries n cs ≤ n + tries
free_from_greatest zero n cs = rw (free_end n cs) (omega arith)
free_from_greatest (suc tries) n cs =
    let ih = free_from_greatest tries (suc n) cs in
    cases (any (λ c. eqb n c.id) cs) (λ e. rw (free_hit tries n cs e) (omega (arith, ih))) (λ e. rw (free_miss tries n cs e) (omega arith))

-- the least free id is at least 1, at most one more than there are claims, and no claim's
pub least_free_least : (cs : List Claim) → 1 ≤ least_free cs
least_free_least cs = free_from_least (length cs) 1 cs

pub least_free_greatest : (cs : List Claim) → least_free cs ≤ 1 + length cs
least_free_greatest cs = free_from_greatest (length cs) 1 cs

pub least_free_alone : (cs : List Claim) → any (λ c. eqb (least_free cs) c.id) cs ≡ false
least_free_alone cs = free_found (length cs) 1 cs (ids_from_few 1 cs)
