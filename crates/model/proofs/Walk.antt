-- What the walk hands back: closed, allowed and aligned; within its room; what the rules make, and all of it. And that it comes to an end.
use Prim.Native.Nat.{ℕ, zero, suc, ◌+◌, ◌*◌, ◌%◌, ◌^◌, ◌≤◌, ◌<◌}
use native.Mathlib.Omega.{arith}
use mathlib.Core.Path.{◌≡◌, refl, sym, ap, ◌∙◌, subst}
use mathlib.Core.Bool.{Bool, true, false}
use mathlib.Core.List.{List, [], ◌∷◌, ◌++◌, append_assoc, append-nil}
use mathlib.Core.Option.{Option, none, some}
use lib.Dec.{ltb, eqb}
use lib.ListN.{get_elem?, length, take, length-append}
use lib.Seq.{take_all, take-append-le}
use borrow.Author.Tests.{ltb-true}
use Rattle.numbers.specs.Choice.{pick}
use Rattle.numbers.proofs.Choice.{either}
use Rattle.numbers.specs.Number.{plus}
use Rattle.words.specs.Reader.{instruction_of}
use Rattle.model.specs.declared.Place.{Place}
use Rattle.model.specs.declared.Place.TheVariants.{Pair, Held}
use Rattle.model.specs.OldCore.{word_in, Transfer, illegal, straight, trap, call, bicc, jmpl, transfer_of, target}
use Rattle.model.specs.Places.{place_at, member, Which, never, always, depends, which_of, bicc_names, return_names, names, names_at, followers, allowed, plains, Makes, from_entry, from_place}
use Rattle.model.specs.Walk.{Walked, table, refused, endless, grow, grown, tested, handle, walk, places_of}
use Rattle.model.proofs.Members.{mem_left, mem_last, AllIn, all_in_left, in_all, AllP, all_append, all_at, all_from, all_map, all_get, NoTwice, no_twice_last}
use Rattle.model.proofs.Follows.{Aligned, Closed}

-- ---------------------------------------------------------------- growing the list
-- what a list grew to by the places fs
pub record Grew (P : Place → Type 0) (cap : ℕ) (ps fs qs : List Place) : Type 0 where
  pub new : List Place
  pub eq : qs ≡ ps ++ new
  pub in_it : AllIn qs fs
  pub all : AllP P ps → AllP P fs → AllP P qs
  pub room : length ps ≤ cap → length qs ≤ cap
  pub once : NoTwice ps → NoTwice qs

not_refused : {A : Type 0} (c a : ℕ) (qs : List Place) → refused c a ≡ table qs → A
not_refused c a qs e = let z : ◌≡◌ {A = ℕ} 0 1 = cc in absurd (omega arith)

not_endless : {A : Type 0} (qs : List Place) → endless ≡ table qs → A
not_endless qs e = let z : ◌≡◌ {A = ℕ} 0 1 = cc in absurd (omega arith)

grew_known : (P : Place → Type 0) (cap : ℕ) (ps xs qs : List Place) (x : Place) → member ps x ≡ true → Grew P cap ps xs qs → Grew P cap ps (x ∷ xs) qs
grew_known P cap ps xs qs x i r =
    record { new = r.new; eq = r.eq; in_it = (rw r.eq (mem_left ps r.new x i), r.in_it); all = λ a b. r.all a b.1; room = r.room; once = r.once }

grew_added : (P : Place → Type 0) (cap : ℕ) (ps xs qs : List Place) (x : Place) → member ps x ≡ false → length ps < cap
    → Grew P cap (ps ++ (x ∷ [])) xs qs → Grew P cap ps (x ∷ xs) qs
grew_added P cap ps xs qs x i l r =
    record {
      new = x ∷ r.new;
      eq = r.eq ∙ append_assoc ps (x ∷ []) r.new;
      in_it = (rw r.eq (mem_left (ps ++ (x ∷ [])) r.new x (mem_last ps x)), r.in_it);
      all = λ a b. r.all (all_append P ps (x ∷ []) a (b.0, tt)) b.1;
      room = λ h. r.room (simp length-append (omega arith));
      once = λ h. r.once (no_twice_last ps x h i);
    }

grew : (P : Place → Type 0) (cap : ℕ) (ps fs qs : List Place) → grow cap ps fs ≡ table qs → Grew P cap ps fs qs
unfolding grow
grew P cap ps [] qs e =
    let z : ps ≡ qs = cc in
    record {
      new = [];
      eq = sym z ∙ sym (append-nil ps);
      in_it = tt;
      all = λ a b. subst (AllP P) z a;
      room = λ h. subst (λ (l : List Place). length l ≤ cap) z h;
      once = λ h. subst NoTwice z h;
    }
grew P cap ps (x ∷ xs) qs e =
    go (member ps x) (ltb (length ps) cap) refl refl e (λ i. grew P cap ps xs qs i) (λ i. grew P cap (ps ++ (x ∷ [])) xs qs i)
  where
    go : (b c : Bool) → member ps x ≡ b → ltb (length ps) cap ≡ c
        → pick b (grow cap ps xs) (pick c (grow cap (ps ++ (x ∷ [])) xs) (refused 5 (place_at x))) ≡ table qs
        → (grow cap ps xs ≡ table qs → Grew P cap ps xs qs) → (grow cap (ps ++ (x ∷ [])) xs ≡ table qs → Grew P cap (ps ++ (x ∷ [])) xs qs)
        → Grew P cap ps (x ∷ xs) qs
    go true c i j k known added = grew_known P cap ps xs qs x i (known k)
    go false true i j k known added = grew_added P cap ps xs qs x i (ltb-true (length ps) cap j) (added k)
    go false false i j k known added = not_refused 5 (place_at x) qs k

-- ---------------------------------------------------------------- followers of an aligned place are aligned
bicc_aligned : (k : Which) (annul : Bool) (t n : ℕ) → t % 4 ≡ 0 → t < 2 ^ 32 → n % 4 ≡ 0 → n < 2 ^ 32 → AllP Aligned (bicc_names k annul t n)
unfolding bicc_names plus
bicc_aligned never false t n a b c d = omega arith
bicc_aligned never true t n a b c d = omega arith
bicc_aligned always false t n a b c d = omega arith
bicc_aligned always true t n a b c d = omega arith
bicc_aligned depends false t n a b c d = omega arith
bicc_aligned depends true t n a b c d = omega arith

returns_aligned : (unimp : Bool) (p : ℕ) → p % 4 ≡ 0 → AllP Aligned (return_names unimp p)
unfolding return_names plus
returns_aligned true p a = omega arith
returns_aligned false p a = omega arith

names_aligned : (t : Transfer) (unimp : Bool) (p n : ℕ) → Aligned (Pair p n) → AllP Aligned (names t unimp p n)
unfolding names target plus
names_aligned illegal unimp p n a = tt
names_aligned straight unimp p n a = omega arith
names_aligned trap unimp p n a = tt
names_aligned (call disp) unimp p n a = (omega arith, returns_aligned unimp p a.0)
names_aligned (bicc cond annul disp) unimp p n a =
    bicc_aligned (which_of cond) annul ((p + 4 * disp) % 2 ^ 32) n (omega arith) (omega arith) a.1 a.3
names_aligned (jmpl rd rs1 x) unimp p n a =
    (omega arith, either (AllP Aligned) (eqb rd 0) [] (return_names unimp p) tt (returns_aligned unimp p a.0))

names_at_aligned : (o : Option ℕ) (unimp : Bool) (p n : ℕ) → Aligned (Pair p n) → AllP Aligned (names_at o unimp p n)
unfolding names_at
names_at_aligned none unimp p n a = tt
names_at_aligned (some word) unimp p n a = names_aligned (transfer_of (instruction_of word)) unimp p n a

followers_aligned : (image : List ℕ) (base : ℕ) (x : Place) → Aligned x → AllP Aligned (followers image base x)
unfolding followers
followers_aligned image base (Pair p n) a = names_at_aligned (word_in image base p) _ p n a
followers_aligned image base (Held p) a = tt

-- ---------------------------------------------------------------- places by their number
get_none : (ps : List Place) (i : ℕ) → get_elem? ps i ≡ none → length ps ≤ i
get_none [] i e = omega arith
get_none (x ∷ xs) zero e = let z : ◌≡◌ {A = ℕ} 0 1 = cc in absurd (omega arith)
get_none (x ∷ xs) (suc i) e = omega (arith, get_none xs i e)

get_some : (ps : List Place) (i : ℕ) (x : Place) → get_elem? ps i ≡ some x → take (suc i) ps ≡ take i ps ++ (x ∷ [])
get_some [] i x e = let z : ◌≡◌ {A = ℕ} 0 1 = cc in absurd (omega arith)
get_some (y ∷ ys) zero x e = let z : y ≡ x = cc in ap (λ (q : Place). q ∷ []) z
get_some (y ∷ ys) (suc i) x e = ap {B = List Place} (λ r. y ∷ r) (get_some ys i x e)

get_lt : (ps : List Place) (i : ℕ) (x : Place) → get_elem? ps i ≡ some x → i < length ps
get_lt [] i x e = let z : ◌≡◌ {A = ℕ} 0 1 = cc in absurd (omega arith)
get_lt (y ∷ ys) zero x e = omega arith
get_lt (y ∷ ys) (suc i) x e = omega (arith, get_lt ys i x e)

module _ (image : List ℕ) (base : ℕ) where
  -- -------------------------------------------------------------- what each turn keeps, the walk keeps
  module _ (cap : ℕ) (Q : ℕ → List Place → Type 0)
      (keep : (i : ℕ) (ps rs : List Place) (x : Place) → get_elem? ps i ≡ some x → allowed image base x ≡ true
      → grow cap ps (followers image base x) ≡ table rs → Q i ps → Q (suc i) rs) where
    -- Q holds of the list when its last place was handled
    pub record Reached (qs : List Place) : Type 0 where
      pub turns : ℕ
      pub kept : Q turns qs
      pub all_done : get_elem? qs turns ≡ none

    module _ (f i : ℕ) (ps qs : List Place) (q : Q i ps)
        (ih : (rs : List Place) → Q (suc i) rs → walk image base f cap (suc i) rs ≡ table qs → Reached qs) where
      keep_grown : (x : Place) → get_elem? ps i ≡ some x → allowed image base x ≡ true → (y : Walked) → grow cap ps (followers image base x) ≡ y
          → grown (walk image base f cap (suc i)) y ≡ table qs → Reached qs
      unfolding grown
      keep_grown x g a (table rs) u v = ih rs (keep i ps rs x g a u q) v
      keep_grown x g a (refused c b) u v = not_refused c b qs v
      keep_grown x g a endless u v = not_endless qs v

      keep_test : (x : Place) → get_elem? ps i ≡ some x → (b : Bool) → allowed image base x ≡ b
          → tested image base (walk image base f cap (suc i)) cap ps x b ≡ table qs → Reached qs
      unfolding tested
      keep_test x g false a v = not_refused 4 (place_at x) qs v
      keep_test x g true a v = keep_grown x g a (grow cap ps (followers image base x)) refl v

      keep_at : (o : Option Place) → get_elem? ps i ≡ o → handle image base (walk image base f cap (suc i)) cap ps o ≡ table qs → Reached qs
      unfolding handle
      keep_at none g v = let z : ps ≡ qs = cc in subst Reached z (record { turns = i; kept = q; all_done = g })
      keep_at (some x) g v = keep_test x g (allowed image base x) refl v

    walk_keeps : (f i : ℕ) (ps qs : List Place) → Q i ps → walk image base f cap i ps ≡ table qs → Reached qs
    unfolding walk
    walk_keeps zero i ps qs q e = not_endless qs e
    walk_keeps (suc f) i ps qs q e = keep_at f i ps qs q (λ rs s v. walk_keeps f (suc i) rs qs s v) (get_elem? ps i) refl e

    pub places_keep : (es : List ℕ) (qs : List Place) → ((ps : List Place) → grow cap [] (plains es) ≡ table ps → Q 0 ps)
        → places_of image base cap es ≡ table qs → Reached qs
    unfolding places_of grown
    places_keep es qs begin e = go (grow cap [] (plains es)) refl e
      where
        go : (y : Walked) → grow cap [] (plains es) ≡ y → grown (walk image base (suc cap) cap 0) y ≡ table qs → Reached qs
        go (table ps) u v = walk_keeps (suc cap) 0 ps qs (begin ps u) v
        go (refused c a) u v = not_refused c a qs v
        go endless u v = not_endless qs v

  -- -------------------------------------------------------------- the list is closed
  abbrev Handled : List Place → Place → Type 0
  Handled ps x = (allowed image base x ≡ true) × AllIn ps (followers image base x)

  handled_on : (ps new : List Place) (x : Place) → Handled ps x → Handled (ps ++ new) x
  handled_on ps new x h = (h.0, all_in_left ps new (followers image base x) h.1)

  record SoFar (i : ℕ) (ps : List Place) : Type 0 where
    done : AllP (Handled ps) (take i ps)
    straight : AllP Aligned ps

  handled_next : (cap i : ℕ) (ps qs : List Place) (x : Place) → get_elem? ps i ≡ some x → allowed image base x ≡ true
      → grow cap ps (followers image base x) ≡ table qs → SoFar i ps → SoFar (suc i) qs
  handled_next cap i ps qs x e ok g s =
      let r = grew Aligned cap ps (followers image base x) qs g in
      let taken : take (suc i) qs ≡ take i ps ++ (x ∷ []) = rw r.eq (take-append-le (suc i) ps r.new (get_lt ps i x e) ∙ get_some ps i x e) in
      record {
        done = rw (taken, r.eq) (all_append (Handled (ps ++ r.new)) (take i ps) (x ∷ [])
            (all_map (Handled ps) (Handled (ps ++ r.new)) (handled_on ps r.new) (take i ps) s.done) ((ok, rw r.eq at r.in_it), tt));
        straight = r.all s.straight (followers_aligned image base x (all_get Aligned ps i x s.straight e));
      }

  pub places_closed : (cap : ℕ) (es : List ℕ) (qs : List Place) → AllP Aligned (plains es) → places_of image base cap es ≡ table qs → Closed image base qs
  places_closed cap es qs l e =
      let r = places_keep cap SoFar (handled_next cap) es qs (λ ps u. record { done = tt; straight = (grew Aligned cap [] (plains es) ps u).all tt l }) e in
      let every : AllP (Handled qs) qs = rw (take_all r.turns qs (get_none qs r.turns r.all_done)) at r.kept.done in
      record {
        ok = λ x h. (all_at (Handled qs) qs every x h).0;
        closed = λ x h. (all_at (Handled qs) qs every x h).1;
        aligned = r.kept.straight;
        aligned_at = all_at Aligned qs r.kept.straight;
      }

  -- -------------------------------------------------------------- the list fits the table
  pub places_fit : (cap : ℕ) (es : List ℕ) (qs : List Place) → places_of image base cap es ≡ table qs → length qs ≤ cap
  places_fit cap es qs e =
      (places_keep cap (λ i l. length l ≤ cap) (λ i ps rs x g a u r. (grew Aligned cap ps (followers image base x) rs u).room r) es qs
      (λ ps u. (grew Aligned cap [] (plains es) ps u).room (omega arith)) e).kept

  -- -------------------------------------------------------------- the list has no place twice
  pub places_once : (cap : ℕ) (es : List ℕ) (qs : List Place) → places_of image base cap es ≡ table qs → NoTwice qs
  places_once cap es qs e =
      (places_keep cap (λ i l. NoTwice l) (λ i ps rs x g a u r. (grew Aligned cap ps (followers image base x) rs u).once r) es qs
      (λ ps u. (grew Aligned cap [] (plains es) ps u).once tt) e).kept

  -- -------------------------------------------------------------- the list is what the rules make, and all of it
  module _ (cap : ℕ) (es : List ℕ) (qs : List Place) (e : places_of image base cap es ≡ table qs) where
    abbrev Made : Place → Type 0
    Made = Makes image base es

    all_made : AllP Made qs
    all_made =
        (places_keep cap (λ i l. AllP Made l)
        (λ i ps rs x g a u r. (grew Made cap ps (followers image base x) rs u).all r
        (all_from Made (followers image base x) (λ y h. from_place x y (all_get Made ps i x r g) h)))
        es qs (λ ps u. (grew Made cap [] (plains es) ps u).all tt (all_from Made (plains es) (λ y h. from_entry y h))) e).kept

    entered : AllIn qs (plains es)
    entered =
        (places_keep cap (λ i l. AllIn l (plains es))
        (λ i ps rs x g a u r. let w = grew Made cap ps (followers image base x) rs u in rw w.eq (all_in_left ps w.new (plains es) r))
        es qs (λ ps u. (grew Made cap [] (plains es) ps u).in_it) e).kept

    pub member_made : (x : Place) → member qs x ≡ true → Makes image base es x
    member_made x h = all_at Made qs all_made x h

    pub made_member : Closed image base qs → (x : Place) → Makes image base es x → member qs x ≡ true
    made_member C y (from_entry x h) = in_all qs (plains es) entered y h
    made_member C z (from_place x y m h) = in_all qs (followers image base x) (C.closed x (made_member C x m)) y h

  -- -------------------------------------------------------------- the walk comes to an end: "Every call ends."
  grow_ends : {A : Type 0} (cap : ℕ) (ps fs : List Place) → grow cap ps fs ≡ endless → A
  unfolding grow
  grow_ends cap ps [] e = let z : ◌≡◌ {A = ℕ} 0 1 = cc in absurd (omega arith)
  grow_ends {A} cap ps (x ∷ xs) e =
      go (member ps x) (ltb (length ps) cap) e (λ i. grow_ends cap ps xs i) (λ i. grow_ends cap (ps ++ (x ∷ [])) xs i)
    where
      go : (b c : Bool) → pick b (grow cap ps xs) (pick c (grow cap (ps ++ (x ∷ [])) xs) (refused 5 (place_at x))) ≡ endless
          → (grow cap ps xs ≡ endless → A) → (grow cap (ps ++ (x ∷ [])) xs ≡ endless → A) → A
      go true c k known added = known k
      go false true k known added = added k
      go false false k known added = let z : ◌≡◌ {A = ℕ} 0 1 = cc in absurd (omega arith)

  ends_grown : (cap : ℕ) (ps fs : List Place) (y : Walked) (rest : List Place → Walked) → length ps ≤ cap → grow cap ps fs ≡ y
      → ((rs : List Place) → length rs ≤ cap → rest rs ≡ endless → ⊥) → grown rest y ≡ endless → ⊥
  unfolding grown
  ends_grown cap ps fs (table rs) rest l u ih v = ih rs ((grew Aligned cap ps fs rs u).room l) v
  ends_grown cap ps fs (refused c a) rest l u ih v = let z : ◌≡◌ {A = ℕ} 0 1 = cc in omega arith
  ends_grown cap ps fs endless rest l u ih v = grow_ends cap ps fs u

  module _ (cap i : ℕ) (ps : List Place) (l : length ps ≤ cap) (rest : List Place → Walked)
      (ih : (rs : List Place) → length rs ≤ cap → suc i ≤ cap → rest rs ≡ endless → ⊥) where
    ends_test : (x : Place) (b : Bool) → suc i ≤ cap → tested image base rest cap ps x b ≡ endless → ⊥
    unfolding tested
    ends_test x false h v = let z : ◌≡◌ {A = ℕ} 0 1 = cc in omega arith
    ends_test x true h v = ends_grown cap ps (followers image base x) (grow cap ps (followers image base x)) rest l refl (λ rs k w. ih rs k h w) v

    ends_at : (o : Option Place) → get_elem? ps i ≡ o → handle image base rest cap ps o ≡ endless → ⊥
    unfolding handle
    ends_at none g v = let z : ◌≡◌ {A = ℕ} 0 1 = cc in omega arith
    ends_at (some x) g v = ends_test x (allowed image base x) (omega (arith, get_lt ps i x g)) v

  walk_ends : (f cap i : ℕ) (ps : List Place) → length ps ≤ cap → cap < i + f → i ≤ cap → walk image base f cap i ps ≡ endless → ⊥
  unfolding walk
  walk_ends zero cap i ps r l h e = omega arith
  walk_ends (suc f) cap i ps r l h e =
      ends_at cap i ps r (walk image base f cap (suc i)) (λ qs s k v. walk_ends f cap (suc i) qs s (omega arith) k v) (get_elem? ps i) refl e

  pub places_end : (cap : ℕ) (es : List ℕ) → places_of image base cap es ≡ endless → ⊥
  unfolding places_of
  places_end cap es e =
      ends_grown cap [] (plains es) (grow cap [] (plains es)) (walk image base (suc cap) cap 0) (omega arith) refl
      (λ rs k w. walk_ends (suc cap) cap 0 rs k (omega arith) (omega arith) w) e
