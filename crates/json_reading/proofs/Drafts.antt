-- Laws of what is kept of an object's members while they are read: each behind the others, by its key's place. Assumes nothing.
use Rattle.std.proofs.Common.{ℕ, ◌≤◌, ◌<◌, ◌≡◌, sym, ◌∙◌, List, [], ◌∷◌, ◌++◌, Bool, true, false, arith, eqb-true, eqb, length, get_or, set, replicate, length-set, get_or-set_same, get_or-set_other}
use mathlib.Core.List.{map-append}
use mathlib.Core.Bool.{or-true, or-false}
use borrow.Author.Tests.{eqb-false}
use lib.ListN.{get_or-replicate}
use Rattle.lists.specs.Tests.{cases}
use Rattle.lists.specs.Lists.{any, All}
use Rattle.lists.specs.Each.{all_both, all_append, none_all, any_map, any_append}
use Rattle.lists.specs.Distinct.{distinct_nil, distinct_last}
use Rattle.actions.specs.Actions.{use_limit}
use Rattle.json_rules.specs.Names.{read_place, execute_place}
use Rattle.json_rules.specs.Members.{Member, Value}
use Rattle.json_rules.specs.Items.{key_count}
use Rattle.json_reading.specs.Answers.{Apart, keys_of, HoldsValue, KeptMembers}

-- a key's value is as it was where the array changed at another key
holds_apart : {s old new : List ℕ} {k key figure from len : ℕ} {v : Value} → Apart k old new → (key ≡ k → ⊥)
    → HoldsValue s old key figure from len v → HoldsValue s new key figure from len v
holds_apart {key = key} {len = len} apart other h = record {
  letters = h.letters;
  single = h.single;
  several = λ low high. let told = h.several low high in (told.0 ∙ sym (apart key len low high other told.1), told.1);
  flags = h.flags;
}

-- each array has a place for each key
pub record Placed (seen : List Bool) (figures froms lens : List ℕ) : Type 0 where
  pub seen_count : length seen ≡ key_count
  pub figure_count : length figures ≡ key_count
  pub from_count : length froms ≡ key_count
  pub len_count : length lens ≡ key_count

-- nothing is kept of no members
pub kept_none : (s numbers : List ℕ)
    → KeptMembers s numbers [] (replicate key_count false) (replicate key_count 0) (replicate key_count 0) (replicate key_count 0)
kept_none s numbers = record {
  marked = λ k below. get_or-replicate key_count k false false below;
  held = tt;
  known = tt;
  once = distinct_nil;
  short = λ k low high. rw (get_or-replicate {A = ℕ} key_count k 0 0 (omega arith)) (omega arith);
}

-- what is said of a key at its place, after another key's place was set
set_apart : {A : Type 0} (l : List A) (k : ℕ) (a d : A) (j : ℕ) → eqb k j ≡ false → get_or (set l k a) j d ≡ get_or l j d
set_apart l k a d j other = get_or-set_other l k j a d (λ same. eqb-false k j other (sym same))

module _ {s old new : List ℕ} {ms : List Member} {seen : List Bool} {figures froms lens : List ℕ} (kept : KeptMembers s old ms seen figures froms lens)
    (placed : Placed seen figures froms lens) (k figure from len : ℕ) (v : Value) (known : k < key_count) (fresh : get_or seen k false ≡ false)
    (apart : Apart k old new) (holds : HoldsValue s new k figure from len v) where
  abbrev next : Member
  next = record { key = k; value = v }

  none : any (eqb k) (keys_of ms) ≡ false
  none = sym (kept.marked k known) ∙ fresh

  others : All (λ m. eqb k m.key ≡ false) ms
  others = none_all (λ m. eqb k m.key) ms (sym (any_map (λ (m : Member). m.key) (eqb k) ms) ∙ none)

  marked_next : (j : ℕ) → j < key_count → get_or (set seen k true) j false ≡ any (eqb j) (keys_of (ms ++ (next ∷ [])))
  marked_next j below =
      cases (eqb j k)
      (λ e. let same : j ≡ k = eqb-true j k e in
      let inside : k < length seen = omega (arith, placed.seen_count) in
      rw (map-append (λ (m : Member). m.key) ms (next ∷ []), any_append (eqb j) (keys_of ms) (k ∷ []), e, or-true (any (eqb j) (keys_of ms)))
      (rw same (get_or-set_same seen k true false inside)))
      (λ e. rw (map-append (λ (m : Member). m.key) ms (next ∷ []), any_append (eqb j) (keys_of ms) (k ∷ []), e, or-false (any (eqb j) (keys_of ms)))
      (get_or-set_other seen k j true false (eqb-false j k e) ∙ kept.marked j below))

  abbrev Before : Member → Type 0
  Before m = HoldsValue s old m.key (get_or figures m.key 0) (get_or froms m.key 0) (get_or lens m.key 0) m.value

  abbrev After : Member → Type 0
  After m =
      HoldsValue s new m.key (get_or (set figures k figure) m.key 0) (get_or (set froms k from) m.key 0) (get_or (set lens k len) m.key 0) m.value

  held_before : All After ms
  held_before =
      all_both (λ m. eqb k m.key ≡ false) Before After
      (λ m other h. rw (set_apart figures k figure 0 m.key other, set_apart froms k from 0 m.key other, set_apart lens k len 0 m.key other)
      (holds_apart apart (λ same. eqb-false k m.key other (sym same)) h)) ms others kept.held

  held_next : HoldsValue s new k (get_or (set figures k figure) k 0) (get_or (set froms k from) k 0) (get_or (set lens k len) k 0) v
  held_next =
      let in_figures : k < length figures = omega (arith, placed.figure_count) in
      let in_froms : k < length froms = omega (arith, placed.from_count) in
      let in_lens : k < length lens = omega (arith, placed.len_count) in
      rw (get_or-set_same figures k figure 0 in_figures, get_or-set_same froms k from 0 in_froms, get_or-set_same lens k len 0 in_lens) holds

  short_next : (j : ℕ) → read_place ≤ j → j ≤ execute_place → get_or (set lens k len) j 0 ≤ use_limit
  short_next j low high =
      cases (eqb k j)
      (λ e. let same : k ≡ j = eqb-true k j e in
      let inside : k < length lens = omega (arith, placed.len_count) in
      rw (← same, get_or-set_same lens k len 0 inside) (holds.several (omega arith) (omega arith)).1)
      (λ e. rw (set_apart lens k len 0 j e) (kept.short j low high))

  -- a member more, with a key that was not seen
  pub kept_next : KeptMembers s new (ms ++ (next ∷ [])) (set seen k true) (set figures k figure) (set froms k from) (set lens k len)
  kept_next = record {
    marked = marked_next;
    held = all_append _ ms (next ∷ []) held_before (held_next, tt);
    known = all_append _ ms (next ∷ []) kept.known (known, tt);
    once = rw (map-append (λ (m : Member). m.key) ms (next ∷ [])) (distinct_last (keys_of ms) k kept.once none);
    short = short_next;
  }

  pub placed_next : Placed (set seen k true) (set figures k figure) (set froms k from) (set lens k len)
  placed_next = record {
    seen_count = length-set seen k true ∙ placed.seen_count;
    figure_count = length-set figures k figure ∙ placed.figure_count;
    from_count = length-set froms k from ∙ placed.from_count;
    len_count = length-set lens k len ∙ placed.len_count;
  }
