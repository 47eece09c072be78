-- A walk along a list for its first broken record; what the columns tell of an actor's owner, a keeper and an id. Assumes nothing.
use Rattle.std.proofs.Common.{Result, Err, Ok, ◌≡◌, refl, sym, ap, ◌∙◌, Bool, true, false, not, List, [], ◌∷◌, map, ℕ, suc, ◌+◌, ◌≤◌, ◌<◌, add-one, arith, eqb, length, take, drop, get_or, length-take, take-suc, take-take, get_or-take}
use mathlib.Core.List.{reverse-append}
use Rattle.lists.specs.Lists.{any}
use Rattle.lists.specs.Each.{any_reverse}
use Rattle.lists.specs.Loops.{Loop, turn, next, done}
use Rattle.register.specs.Limits.{human_kind}
use Rattle.register.specs.Register.{actors_of, no_actor}
use Rattle.register.specs.Chain.{latest}
use Rattle.register.specs.declared.Actors.{Actors}
use Rattle.columns.specs.Columns.{up_to, beside, actor_id, actor_kind, actors_to, actor_columns}
use Rattle.columns.specs.Laws.{among_natural, beside_natural, up_to_first}
use Rattle.columns.specs.declared.ActorColumns.{ActorColumns}
use Rattle.soundness_rules.specs.Sound.{human}
use Rattle.refusals.specs.Refusals.{Test, outcome_of}
use Rattle.refusals.proofs.Laws.{outcome_nil, outcome_pass, outcome_fail}
use Rattle.refusals.specs.declared.Refusal.{Refusal}
use Rattle.refusals.specs.declared.Refusal.TheVariants.{Range, Doubled}
use Rattle.faults.specs.Faults.{broken_in, id_taken}
use Rattle.faults.proofs.Faulting.{in_nil, in_pass, in_fail}
use Rattle.fault_finding.specs.Asked.{three_tests}

-- the three tests of a record, by what was found of those before
module _ (fit named : Bool) (other : Refusal) (taken : Bool) where
  pub unfit : fit ≡ false → outcome_of (three_tests fit named other taken) ≡ Err Range
  unfit e = outcome_fail _ _ e

  module _ (fits : fit ≡ true) where
    pub unnamed : named ≡ false → outcome_of (three_tests fit named other taken) ≡ Err other
    unnamed e = outcome_pass _ _ fits ∙ outcome_fail _ _ e

    module _ (names : named ≡ true) where
      pub doubled : taken ≡ true → outcome_of (three_tests fit named other taken) ≡ Err Doubled
      doubled e = outcome_pass _ _ fits ∙ outcome_pass _ _ names ∙ outcome_fail _ _ (ap not e)

      pub whole : taken ≡ false → outcome_of (three_tests fit named other taken) ≡ Ok tt
      whole e = outcome_pass _ _ fits ∙ outcome_pass _ _ names ∙ outcome_pass _ _ (ap not e) ∙ outcome_nil

-- a walk along the first k of a list has come to place i: what is left is asked behind those that were passed
module _ {A : Type 0} (tests : List A → A → List Test) (k : ℕ) (l : List A) where
  abbrev pub Walk : ℕ → ℕ → Type 0
  Walk n i = Loop (λ at rest. broken_in tests at (latest (take at (take k l))) rest) k l n i (broken_in tests 0 [] (take k l))

  module _ {n i : ℕ} (s : Walk n i) (d : A) (inside : i < n) where
    pub walk_fails : (why : Refusal) → outcome_of (tests (latest (take i (take k l))) (get_or l i d)) ≡ Err why
        → broken_in tests 0 [] (take k l) ≡ record { why = why; place = i; what = get_or l i d } ∷ []
    walk_fails why e = turn s d inside ∙ in_fail tests i (latest (take i (take k l))) (get_or l i d) (drop (i + 1) (take k l)) why e

    passed : latest (take (suc i) (take k l)) ≡ get_or l i d ∷ latest (take i (take k l))
    passed =
        let within : i < length (take k l) = omega (arith, inside, s.long) in
        let below : i < k = omega (arith, within, length-take k l) in
        ap latest (take-suc (take k l) i d within)
        ∙ reverse-append (take i (take k l)) (get_or (take k l) i d ∷ [])
        ∙ ap (λ c. c ∷ latest (take i (take k l))) (get_or-take k l i d below)

    pub walk_next : outcome_of (tests (latest (take i (take k l))) (get_or l i d)) ≡ Ok tt → Walk n (i + 1)
    walk_next e =
        next s inside
        (turn s d inside
        ∙ in_pass tests i (latest (take i (take k l))) (get_or l i d) (drop (i + 1) (take k l)) e
        ∙ rw (add-one i) (ap (λ earlier. broken_in tests (suc i) earlier (drop (suc i) (take k l))) (sym passed)))

  pub walk_below : {n i : ℕ} → Walk n i → i < n → i ≤ k
  walk_below s inside = omega (arith, inside, s.long, length-take k l)

  pub walk_done : {n i : ℕ} → Walk n i → n ≤ i → broken_in tests 0 [] (take k l) ≡ []
  walk_done {n} {i} s past = done s past ∙ in_nil tests i (latest (take i (take k l)))

-- whether an earlier record has an id, by the column of ids
pub taken_told : {A : Type 0} (id : A → ℕ) (none : A) (n : ℕ) (l : List A) (i x : ℕ) → i ≤ n
    → any (eqb x) (take i (map id (up_to none n l))) ≡ id_taken id (latest (take i (take n l))) x
taken_told id none n l i x few =
    among_natural id x i (up_to none n l)
    ∙ ap (any (λ d. eqb x (id d))) (sym (take-take i n (up_to none n l) few) ∙ ap (take i) (up_to_first none n l))
    ∙ sym (any_reverse (λ d. eqb x (id d)) (take i (take n l)))

-- whether a number is a human's, by the columns of the actors
pub human_told : (a : Actors) (x : ℕ) {people : ActorColumns} → people ≡ actor_columns (actors_to a).list
    → beside (take a.count people.names) (take a.count people.kinds) x human_kind ≡ human (actors_of a) x
human_told a x e =
    rw e
    (beside_natural actor_id actor_kind x human_kind a.count (actors_to a).list
    ∙ ap (λ l. human l x) (up_to_first no_actor a.count a.list))

-- an outcome that is no refusal
pub not_refused : (o : Result Unit Refusal) → ((why : Refusal) → o ≡ Err why → ⊥) → o ≡ Ok tt
not_refused (Ok _) h = refl
not_refused (Err why) h = absurd (h why refl)
