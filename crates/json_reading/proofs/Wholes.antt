-- Laws of an object with nothing behind it: what the reading of its members says of it. Assumes nothing.
use Rattle.std.proofs.Common.{ℕ, ◌≡◌, refl, sym, ap, ◌∙◌, List, [], ◌∷◌, true, false, eqb, drop}
use Rattle.lists.specs.Tests.{cases}
use Rattle.json_tokens.specs.Tokens.{Token, mark, text, no_token, opens_object, closes_object, tokens}
use Rattle.json_rules.specs.Members.{Member, Taken, taking, missed, past, led_by, any_items, take_member, sole, members_of}
use Rattle.json_rules.specs.Items.{taken_cases, missed_took}
use Rattle.json_reading.specs.Answers.{is_marked, admitted, admitted_whole, Drafted}
use Rattle.json_reading.specs.declared.members.Draft.{Draft}
use Rattle.json_reading.proofs.Turns.{members_in, members_missed, members_led}

-- the members of an object, or none
abbrev any_members : List Token → Taken (List Member)
any_members ts = any_items take_member closes_object ts

-- they are the members up to the closing brace, unless there are none
any_members_lem : {A : Type 0} (ts : List Token) → (any_members ts ≡ members_in ts → A)
    → ((rest : List Token) → members_in ts ≡ missed → any_members ts ≡ taking [] rest → A) → A
unfolding take_member
any_members_lem [] same none = same (sym (members_missed [] refl))
any_members_lem (mark b ∷ ts) same none =
    cases (eqb b closes_object) (λ closed. none ts (members_missed (mark b ∷ ts) refl) (rw closed)) (λ other. same (rw other))
any_members_lem (text x ∷ ts) same none = same refl
any_members_lem (no_token ∷ ts) same none = same (sym (members_missed (no_token ∷ ts) refl))

led_admitted : (m : Member) (x : Taken (List Member)) → admitted_whole (led_by m x) ≡ admitted (led_by m x)
led_admitted m (taking l ts) = refl
led_admitted m missed = refl

members_admitted : (ts : List Token) → admitted_whole (members_in ts) ≡ admitted (members_in ts)
members_admitted ts =
    taken_cases (take_member ts)
    (λ m rest e. let led = members_led ts m rest e in rw led.1 (led_admitted m led.0))
    (λ e. rw (members_missed ts e))

any_admitted : (ts : List Token) → admitted_whole (any_members ts) ≡ admitted (members_in ts)
any_admitted ts = any_members_lem ts (λ same. rw same (members_admitted ts)) (λ rest none e. rw (e, none))

any_drafted : {s numbers : List ℕ} (d : Draft) (ts : List Token) → Drafted s numbers d (members_in ts) → Drafted s numbers d (any_members ts)
any_drafted d ts h = (h.0, any_members_lem ts (λ same. same ∙ h.1) (λ behind none empty. missed_took (sym none ∙ h.1)), h.2)

-- nothing follows
sole_ended : {s numbers : List ℕ} (d : Draft) (p : Taken (List Member)) → Drafted s numbers d p → tokens (drop d.next s) ≡ []
    → Drafted s numbers d (sole p)
sole_ended d p h ended = (h.0, rw (h.1, ended), h.2)

-- and they are admitted as they were
sole_admitted : {s numbers : List ℕ} (d : Draft) (p : Taken (List Member)) → Drafted s numbers d p → tokens (drop d.next s) ≡ []
    → admitted_whole p ≡ true → admitted_whole (sole p) ≡ true
sole_admitted d p h ended e =
    let there : p ≡ taking h.0 [] = h.1 ∙ ap (taking h.0) ended in
    ap (λ q. admitted_whole (sole q)) there ∙ (sym (ap admitted_whole there) ∙ e)

-- something follows
sole_followed : {s numbers : List ℕ} (d : Draft) (p : Taken (List Member)) (k : Token) (ts : List Token) → Drafted s numbers d p
    → tokens (drop d.next s) ≡ k ∷ ts → admitted_whole (sole p) ≡ false
sole_followed d p k ts h follows = rw (h.1, follows)

-- what is not admitted is not with nothing behind it
sole_unadmitted : (p : Taken (List Member)) → admitted_whole p ≡ false → admitted_whole (sole p) ≡ false
sole_unadmitted (taking ms []) e = e
sole_unadmitted (taking ms (k ∷ ts)) e = refl
sole_unadmitted missed e = refl

unmarked : {A : Type 0} (b : ℕ) (more : List Token → Taken A) (ts : List Token) → is_marked b ts ≡ false → past b more ts ≡ missed
unmarked b more [] e = refl
unmarked b more (mark c ∷ ts) e = rw e
unmarked b more (text x ∷ ts) e = refl
unmarked b more (no_token ∷ ts) e = refl

-- no object begins
pub object_unopened : (ts : List Token) → is_marked opens_object ts ≡ false → admitted_whole (members_of ts) ≡ false
unfolding members_of
object_unopened ts e = rw (unmarked opens_object any_members ts e)

module _ (ts us : List Token) (opened : ts ≡ mark opens_object ∷ us) where
  -- its members are not admitted
  pub object_unadmitted : admitted (members_in us) ≡ false → admitted_whole (members_of ts) ≡ false
  unfolding members_of
  object_unadmitted e = rw opened (sole_unadmitted (any_members us) (any_admitted us ∙ e))

  module _ {s numbers : List ℕ} (d : Draft) (read : Drafted s numbers d (members_in us)) where
    -- nothing stands behind the object
    pub object_ended : tokens (drop d.next s) ≡ [] → (admitted_whole (members_of ts) ≡ true) × Drafted s numbers d (members_of ts)
    unfolding members_of
    object_ended ended =
        let drafted = any_drafted d us read in
        let once : admitted_whole (any_members us) ≡ true = any_admitted us ∙ (ap admitted read.1 ∙ read.2.once) in
        rw opened (sole_admitted d (any_members us) drafted ended once, sole_ended d (any_members us) drafted ended)

    -- something stands behind it
    pub object_followed : (k : Token) (rest : List Token) → tokens (drop d.next s) ≡ k ∷ rest → admitted_whole (members_of ts) ≡ false
    unfolding members_of
    object_followed k rest follows = rw opened (sole_followed d (any_members us) k rest (any_drafted d us read) follows)
