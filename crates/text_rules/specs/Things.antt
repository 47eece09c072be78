-- Laws: A thing with one text: what is read of its text, whatever follows, is the thing, and where a reading goes on, what it read is the text
-- of what it gives. The two laws pass on to one thing behind another, to a thing made of another, to many things and to a section.
-- Assumes nothing.
use Rattle.std.specs.Prelude.{ℕ, zero, suc, ◌≡◌, length, List, [], ◌∷◌, ◌++◌}
use Rattle.std.proofs.Common.{sym, subst, ◌∙◌, append_assoc}
use Rattle.std.proofs.Math.Path.{refl, ap}
use Rattle.lists.specs.Lists.{All}
use Rattle.lines.specs.Reading.{State, going, Read}
use Rattle.text_rules.specs.Records.{many, texts}

-- the text t, at line l, reads as the thing a, and the rest follows
pub record ReadsAs {A : Type 0} (read : State → Read A) (t : List ℕ) (l : ℕ) (a : A) (rest : List ℕ) : Type 0 where
  pub next : ℕ
  pub value : (read (going t l)).value ≡ a
  pub state : (read (going t l)).state ≡ going rest next

-- a reading stood before the text of the thing a, which fits, and the rest
pub record Stood {A : Type 0} (text : A → List ℕ) (Fits : A → Type 0) (a : A) (st : State) (rest : List ℕ) : Type 0 where
  pub at : ℕ
  pub before : st ≡ going (text a ++ rest) at
  pub fits : Fits a

pub record Codec (A : Type 0) : Type 1 where
  pub read : State → Read A
  pub text : A → List ℕ
  pub Fits : A → Type 0
  pub reads : (a : A) (rest : List ℕ) (l : ℕ) → Fits a → ReadsAs read (text a ++ rest) l a rest
  pub stood : (st : State) (rest : List ℕ) (m : ℕ) → (read st).state ≡ going rest m → Stood text Fits (read st).value st rest

-- one thing behind another
pub record Pair (A B : Type 0) : Type 0 where
  pub first : A
  pub second : B

-- where the first decides how the second is read
module _ {A B : Type 0} (C : Codec A) (D : A → Codec B) where
  abbrev pub both_read : State → Read (Pair A B)
  both_read st =
      let one = C.read st in
      let other = (D one.value).read one.state in
      record { value = record { first = one.value; second = other.value }; state = other.state }

  abbrev pub both_text : Pair A B → List ℕ
  both_text p = C.text p.first ++ (D p.first).text p.second

  pub record BothFit (p : Pair A B) : Type 0 where
    pub one : C.Fits p.first
    pub other : (D p.first).Fits p.second

  pub pair_reads : (p : Pair A B) (rest : List ℕ) (l : ℕ) → BothFit p → ReadsAs both_read (both_text p ++ rest) l p rest
  pair_reads p rest l h =
      let follows : List ℕ = (D p.first).text p.second ++ rest in
      let one = C.reads p.first follows l h.one in
      let other = (D p.first).reads p.second rest one.next h.other in
      let shape : both_text p ++ rest ≡ C.text p.first ++ follows = append_assoc (C.text p.first) ((D p.first).text p.second) rest in
      let before : Read A = C.read (going (C.text p.first ++ follows) l) in
      rw shape (record {
        next = other.next;
        value = rw (one.value, one.state, other.value);
        state = ap (λ (a : A). ((D a).read before.state).state) one.value ∙ ap (λ (st : State). ((D p.first).read st).state) one.state ∙ other.state;
      })

  pub pair_stood : (st : State) (rest : List ℕ) (m : ℕ) → (both_read st).state ≡ going rest m → Stood both_text BothFit (both_read st).value st rest
  pair_stood st rest m h =
      let a : A = (C.read st).value in
      let b : B = ((D a).read (C.read st).state).value in
      let other = (D a).stood (C.read st).state rest m h in
      let one = C.stood st ((D a).text b ++ rest) other.at other.before in
      record {
        at = one.at;
        before = one.before ∙ ap (λ (u : List ℕ). going u one.at) (sym (append_assoc (C.text a) ((D a).text b) rest));
        fits = record { one = one.fits; other = other.fits };
      }

  abbrev pub decided_codec : Codec (Pair A B)
  decided_codec = record { read = both_read; text = both_text; Fits = BothFit; reads = pair_reads; stood = pair_stood }

-- where it does not
abbrev pub pair_codec : {A B : Type 0} → Codec A → Codec B → Codec (Pair A B)
pair_codec C D = decided_codec C (λ a. D)

-- a thing made of another: `of` makes it, `apart` takes it apart, and what was read is what the made thing is taken apart into
module _ {A B : Type 0} (C : Codec B) (of : B → A) (apart : A → B) (back : (st : State) → apart (of (C.read st).value) ≡ (C.read st).value) where
  abbrev pub made_read : State → Read A
  made_read st = record { value = of (C.read st).value; state = (C.read st).state }

  abbrev pub made_text : A → List ℕ
  made_text a = C.text (apart a)

  -- its parts fit, and it is what they make
  pub record MadeFits (a : A) : Type 0 where
    pub whole : C.Fits (apart a)
    pub clean : of (apart a) ≡ a

  pub made_reads : (a : A) (rest : List ℕ) (l : ℕ) → MadeFits a → ReadsAs made_read (made_text a ++ rest) l a rest
  made_reads a rest l h =
      let one = C.reads (apart a) rest l h.whole in
      record { next = one.next; value = ap of one.value ∙ h.clean; state = one.state }

  pub made_stood : (st : State) (rest : List ℕ) (m : ℕ) → (made_read st).state ≡ going rest m → Stood made_text MadeFits (made_read st).value st rest
  made_stood st rest m h =
      let one = C.stood st rest m h in
      record {
        at = one.at;
        before = one.before ∙ ap (λ (b : B). going (C.text b ++ rest) one.at) (sym (back st));
        fits = record { whole = subst C.Fits (sym (back st)) one.fits; clean = ap of (back st) };
      }

  abbrev pub made_codec : Codec A
  made_codec = record { read = made_read; text = made_text; Fits = MadeFits; reads = made_reads; stood = made_stood }

-- many things, one behind the other
module _ {A : Type 0} (C : Codec A) where
  pub many_reads : (xs : List A) (rest : List ℕ) (l : ℕ) → All C.Fits xs → ReadsAs (many C.read (length xs)) (texts C.text xs ++ rest) l xs rest
  unfolding many texts
  many_reads [] rest l h = record { next = l; value = refl; state = refl }
  many_reads (a ∷ xs) rest l h =
      let one = C.reads a (texts C.text xs ++ rest) l h.0 in
      let more = many_reads xs rest one.next h.1 in
      rw (append_assoc (C.text a) (texts C.text xs) rest) (record {
        next = more.next;
        value = rw (one.value, one.state, more.value);
        state = ap (λ (st : State). (many C.read (length xs) st).state) one.state ∙ more.state;
      })

  pub many_stood : (n : ℕ) (st : State) (rest : List ℕ) (m : ℕ) → (many C.read n st).state ≡ going rest m →
      Stood (texts C.text) (All C.Fits) (many C.read n st).value st rest
  unfolding many texts
  many_stood zero st rest m h = record { at = m; before = h; fits = tt }
  many_stood (suc n) st rest m h =
      let more = many_stood n (C.read st).state rest m h in
      let one = C.stood st (texts C.text (many C.read n (C.read st).state).value ++ rest) more.at more.before in
      record {
        at = one.at;
        before = one.before
            ∙ ap (λ (u : List ℕ). going u one.at)
            (sym (append_assoc (C.text (C.read st).value) (texts C.text (many C.read n (C.read st).state).value) rest));
        fits = (one.fits, more.fits);
      }
