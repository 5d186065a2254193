-- Laws of the index: what a chain passes over is not the place that is looked for.
use Rattle.numbers.specs.Number.{up_to}
use Rattle.numbers.specs.Choice.{pick}
use Rattle.model.proofs.Members.{same_eq}
use Rattle.model.specs.declared.Place.{Place}
use Rattle.model.specs.Places.{same_place, member}
use borrow.Author.Tests.{lt-ltb, le-ltb, ltb-false, eqb-true, eqb-false}
use Rattle.std.specs.Prelude.{Some, None, is_some}
use lib.Seq.{get_or-set_same, get_or-set_other}
use lib.ListN.{length, get_or, set, replicate, length-set, length-replicate, get_or-replicate}
use lib.Dec.{eqb, ltb, leb-suc-suc, leb-zero}
use native.Mathlib.Nat.{le_of_suc-le-suc, eq-or-lt_of_le}
use native.Mathlib.Numerals.{add-one}
use native.Mathlib.Omega.{arith}
use mathlib.Core.Logic.{◌⊎◌, inl, inr, ⊎_elim}
use mathlib.Core.List.{List, [], ◌∷◌, ◌++◌}
use mathlib.Core.Bool.{Bool, true, false, false≢true}
use mathlib.Core.Path.{◌≡◌, refl, sym, ap, ◌∙◌}
use Prim.Native.Nat.{ℕ, zero, suc, ◌+◌, ◌*◌, ◌-◌, ◌≤◌, ◌<◌}
use Rattle.places.specs.Table.{Narrow, place_in, ShowsIn, SameRow, places_in, put_row, number_of, found}
use Rattle.places.specs.Index.{hash, last, Indexed, Tabled, Ready}
use Rattle.places.proofs.Rows.{differ, place_same, shows_same, place_placed, shows_placed, place_below_placed, row_below_placed, length_placed, length_places}

other_hash : (x y : Place) → (hash x ≡ hash y → ⊥) → same_place x y ≡ false
other_hash x y n = differ x y (λ e. n (ap hash e))

pub hash_lt : (x : Place) → hash x < 8192
unfolding hash
hash_lt x = omega arith

-- a place is in a list exactly if its number is below the list's length
pub member_number : (x : Place) (ps : List Place) → member ps x ≡ ltb (number_of x ps) (length ps)
unfolding member number_of
member_number x [] = refl
member_number x (y ∷ ys) = rw (member_number x ys) (go (same_place y x))
  where
    go : (b : Bool) → pick b true (ltb (number_of x ys) (length ys)) ≡ ltb (pick b 0 (suc (number_of x ys))) (suc (length ys))
    go true = sym (leb-suc-suc 0 (length ys) ∙ leb-zero (length ys))
    go false = sym (leb-suc-suc (suc (number_of x ys)) (length ys))

number_le : (x : Place) (ps : List Place) → number_of x ps ≤ length ps
unfolding number_of
number_le x [] = omega arith
number_le x (y ∷ ys) = go (number_le x ys) (same_place y x)
  where
    go : number_of x ys ≤ length ys → (b : Bool) → pick b 0 (suc (number_of x ys)) ≤ suc (length ys)
    go h true = omega arith
    go h false = omega arith

-- a list with one place more
member_snoc : (x y : Place) (ps : List Place) → member (ps ++ (y ∷ [])) x ≡ pick (member ps x) true (same_place y x)
unfolding member
member_snoc x y [] = go (same_place y x)
  where
    go : (b : Bool) → pick b true false ≡ b
    go true = refl
    go false = refl
member_snoc x y (z ∷ ps) = rw (member_snoc x y ps) (go (same_place z x))
  where
    go : (b : Bool) → pick b true (pick (member ps x) true (same_place y x)) ≡ pick (pick b true (member ps x)) true (same_place y x)
    go true = refl
    go false = refl

number_snoc : (x y : Place) (ps : List Place)
    → number_of x (ps ++ (y ∷ [])) ≡ pick (member ps x) (number_of x ps) (pick (same_place y x) (length ps) (suc (length ps)))
unfolding number_of member
number_snoc x y [] = refl
number_snoc x y (z ∷ ps) = rw (number_snoc x y ps) (go (same_place z x) (member ps x) (same_place y x))
  where
    go : (b c d : Bool) → pick b 0 (suc (pick c (number_of x ps) (pick d (length ps) (suc (length ps)))))
        ≡ pick (pick b true c) (pick b 0 (suc (number_of x ps))) (pick d (suc (length ps)) (suc (suc (length ps))))
    go true c d = refl
    go false true d = refl
    go false false true = refl
    go false false false = refl

-- the lowest number of a place among the first n, or best where it is none of them
unfoldable pub low : Place → List ℕ → ℕ → ℕ → ℕ
low x t n best = pick (member (places_in t n) x) (number_of x (places_in t n)) best

low_all : (x : Place) (t : List ℕ) (n : ℕ) → number_of x (places_in t n) ≡ low x t n n
unfolding low
low_all x t n = rw (member_number x (places_in t n)) (go (ltb (number_of x (places_in t n)) (length (places_in t n))) refl)
  where
    go : (b : Bool) → ltb (number_of x (places_in t n)) (length (places_in t n)) ≡ b
        → number_of x (places_in t n) ≡ pick b (number_of x (places_in t n)) n
    go true e = refl
    go false e =
        omega (arith, ltb-false (number_of x (places_in t n)) (length (places_in t n)) e, number_le x (places_in t n), length_places t n)

low_none : (x : Place) (t : List ℕ) (best : ℕ) → low x t 0 best ≡ best
unfolding low places_in up_to member
low_none x t best = refl

low_step : (x : Place) (t : List ℕ) (n best : ℕ) → low x t (suc n) best ≡ low x t n (pick (same_place (place_in t n) x) n best)
unfolding low places_in up_to
low_step x t n best =
    rw (member_snoc x (place_in t n) (places_in t n), number_snoc x (place_in t n) (places_in t n), length_places t n)
    (go (member (places_in t n) x) (same_place (place_in t n) x))
  where
    go : (c d : Bool) → pick (pick c true d) (pick c (number_of x (places_in t n)) (pick d n (suc n))) best
        ≡ pick c (number_of x (places_in t n)) (pick d n best)
    go true d = refl
    go false true = refl
    go false false = refl

-- the last place of a hash, and what it passes over
last_le : (t : List ℕ) (n h : ℕ) → last t n h ≤ n
unfolding last
last_le t zero h = omega arith
last_le t (suc n) h = go (last_le t n h) (eqb (hash (place_in t n)) h)
  where
    go : last t n h ≤ n → (b : Bool) → pick b (suc n) (last t n h) ≤ suc n
    go l true = omega arith
    go l false = omega arith

last_hash : (t : List ℕ) (n h : ℕ) → 0 < last t n h → hash (place_in t (last t n h - 1)) ≡ h
unfolding last
last_hash t zero h l = absurd (omega arith)
last_hash t (suc n) h l = go (last_hash t n h) (eqb (hash (place_in t n)) h) refl l
  where
    go : (0 < last t n h → hash (place_in t (last t n h - 1)) ≡ h) → (b : Bool) → eqb (hash (place_in t n)) h ≡ b
        → 0 < pick b (suc n) (last t n h) → hash (place_in t (pick b (suc n) (last t n h) - 1)) ≡ h
    go r true e l = let k : suc n - 1 ≡ n = omega arith in rw k (eqb-true (hash (place_in t n)) h e)
    go r false e l = r l

last_same : (t m : List ℕ) (n h : ℕ) → ((k : ℕ) → k < n → place_in t k ≡ place_in m k) → last t n h ≡ last m n h
unfolding last
last_same t m zero h e = refl
last_same t m (suc n) h e = rw (e n (omega arith), last_same t m n h (λ k l. e k (omega arith)))

low_last : (x : Place) (t : List ℕ) (n best : ℕ) → low x t n best ≡ low x t (last t n (hash x)) best
unfolding last
low_last x t zero best = refl
low_last x t (suc n) best = go (low_last x t n best) (eqb (hash (place_in t n)) (hash x)) refl
  where
    go : low x t n best ≡ low x t (last t n (hash x)) best → (b : Bool) → eqb (hash (place_in t n)) (hash x) ≡ b
        → low x t (suc n) best ≡ low x t (pick b (suc n) (last t n (hash x))) best
    go r true e = refl
    go r false e =
        low_step x t n best ∙ rw (other_hash (place_in t n) x (eqb-false (hash (place_in t n)) (hash x) e)) r

-- of places that are not x, none is x
pub not_there : (t : List ℕ) (n : ℕ) (x : Place) → ((k : ℕ) → k < n → same_place (place_in t k) x ≡ false) → member (places_in t n) x ≡ false
unfolding places_in up_to member
not_there t zero x h = refl
not_there t (suc n) x h =
    member_snoc x (place_in t n) (places_in t n) ∙ rw (not_there t n x (λ k l. h k (omega arith)), h n (omega arith))

pub none_there : (t : List ℕ) (n : ℕ) (x : Place) → member (places_in t n) x ≡ false → (k : ℕ) → k < n → same_place (place_in t k) x ≡ false
unfolding places_in up_to
none_there t zero x e k l = absurd (omega arith)
none_there t (suc n) x e k l =
    go (member (places_in t n) x) (same_place (place_in t n) x) refl refl (sym (member_snoc x (place_in t n) (places_in t n)) ∙ e) (none_there t n x)
  where
    go : (c d : Bool) → member (places_in t n) x ≡ c → same_place (place_in t n) x ≡ d → pick c true d ≡ false
        → (member (places_in t n) x ≡ false → (k : ℕ) → k < n → same_place (place_in t k) x ≡ false) → same_place (place_in t k) x ≡ false
    go true d u v w r = absurd (false≢true (sym w))
    go false true u v w r = absurd (false≢true (sym w))
    go false false u v w r =
        ⊎_elim (λ (m : k ≡ n). rw m v) (λ (m : k < n). r u k m) (eq-or-lt_of_le (le_of_suc-le-suc l))

-- following a chain: the place that is sought is none from j on; and place j - 1 has the hash
abbrev pub Seeking : Place → List ℕ → ℕ → ℕ → Type 0
Seeking x t count j =
    (j ≤ count) × (number_of x (places_in t count) ≡ low x t j count) × (0 < j → hash (place_in t (j - 1)) ≡ hash x)

module _ (x : Place) (t : List ℕ) (count : ℕ) where
  seeking_from : (n v : ℕ) → n ≤ count → number_of x (places_in t count) ≡ low x t n count → v ≡ last t n (hash x) → Seeking x t count v
  seeking_from n v h e ev = rw ev (omega (arith, last_le t n (hash x)), e ∙ low_last x t n count, last_hash t n (hash x))

  -- one place back
  back : (j : ℕ) → Seeking x t count j → 0 < j
      → number_of x (places_in t count) ≡ low x t (j - 1) (pick (same_place (place_in t (j - 1)) x) (j - 1) count)
  back j c l = let k : suc (j - 1) ≡ j = omega arith in c.1 ∙ (rw k at (low_step x t (j - 1) count))

  module _ (heads links : List ℕ) (i : Indexed t count heads links) where
    pub seeking_start : (h : ℕ) → h ≡ hash x → Seeking x t count (get_or heads h 0)
    seeking_start h e = seeking_from count (get_or heads h 0) (omega arith) (low_all x t count) (rw e (i.head (hash x) (hash_lt x)))

    pub seeking_next : (j : ℕ) → Seeking x t count j → 0 < j → same_place (place_in t (j - 1)) x ≡ false
        → Seeking x t count (get_or links (j - 1) 0)
    seeking_next j c l e =
        seeking_from (j - 1) (get_or links (j - 1) 0) (omega arith) (rw e at (back j c l)) (i.link (j - 1) (omega arith) ∙ rw (c.2 l) refl)

    pub seeking_less : (j : ℕ) → Seeking x t count j → 0 < j → get_or links (j - 1) 0 < j
    seeking_less j c l = rw (i.link (j - 1) (omega arith)) (omega (arith, last_le t (j - 1) (hash (place_in t (j - 1)))))

    pub seeking_hit : (j : ℕ) → Seeking x t count j → 0 < j → same_place (place_in t (j - 1)) x ≡ true → j - 1 ≡ number_of x (places_in t count)
    unfolding low
    seeking_hit j c l e =
        let q : place_in t (j - 1) ≡ x = same_eq (place_in t (j - 1)) x e in
        let m : member (places_in t (j - 1)) x ≡ false =
        not_there t (j - 1) x (λ k b. rw q at (i.apart k (j - 1) b (omega arith))) in
        sym ((rw e at (back j c l)) ∙ rw m)

    -- the same of the place whose number is one less
    pub here_hit : (k : ℕ) → Seeking x t count (suc k) → same_place (place_in t k) x ≡ true → k ≡ number_of x (places_in t count)
    here_hit k c e = let p : suc k - 1 ≡ k = omega arith in rw p at (seeking_hit (suc k) c (omega arith) (rw p e))

    pub here_next : (k : ℕ) → Seeking x t count (suc k) → same_place (place_in t k) x ≡ false → Seeking x t count (get_or links k 0)
    here_next k c e = let p : suc k - 1 ≡ k = omega arith in rw p at (seeking_next (suc k) c (omega arith) (rw p e))

    pub here_less : (k : ℕ) → Seeking x t count (suc k) → get_or links k 0 < suc k
    here_less k c = let p : suc k - 1 ≡ k = omega arith in rw p at (seeking_less (suc k) c (omega arith))

  pub seeking_end : (j : ℕ) → Seeking x t count j → j ≤ 0 → count ≡ number_of x (places_in t count)
  seeking_end j c l = let e : j ≡ 0 = omega arith in sym (c.1 ∙ rw e (low_none x t count))

  -- what was looked for, as it was found
  pub found_at : (i : ℕ) → i < count → i ≡ number_of x (places_in t count) → Some i ≡ found x (places_in t count)
  unfolding found
  found_at i h e = rw (← e, length_places t count, lt-ltb i count h)

  pub found_none : count ≡ number_of x (places_in t count) → None ≡ found x (places_in t count)
  unfolding found
  found_none e = rw (← e, length_places t count, le-ltb count count (omega arith))

-- an empty index
pub index_none : (t : List ℕ) → Indexed t 0 (replicate 8192 0) (replicate 8192 0)
unfolding last
index_none t =
    record {
      head_room = length-replicate {A = ℕ} 8192 0;
      link_room = length-replicate {A = ℕ} 8192 0;
      head = λ h l. get_or-replicate 8192 h 0 0 l;
      link = λ i l. absurd (omega arith);
      shows = λ i l. absurd (omega arith);
      apart = λ i j l m. absurd (omega arith);
    }

-- the index of a table whose places are the same
pub index_same : (t m heads links : List ℕ) (n : ℕ) → ((i : ℕ) → i < n → SameRow m t i) → Indexed t n heads links → Indexed m n heads links
index_same t m heads links n s x =
    record {
      head_room = x.head_room;
      link_room = x.link_room;
      head = λ h l. x.head h l ∙ last_same t m n h e;
      link = λ i l. x.link i l ∙ rw (e i l) (last_same t m i (hash (place_in m i)) (λ k j. e k (omega arith)));
      shows = λ i l. shows_same m t i (s i l) (x.shows i l);
      apart = λ i j l k. rw (← e i (omega arith), ← e j k) (x.apart i j l k);
    }
  where
    e : (i : ℕ) → i < n → place_in t i ≡ place_in m i
    e i l = sym (place_same m t i (s i l))

-- the index with one place more, which was not there
module _ (t : List ℕ) (n : ℕ) (x : Place) (heads links : List ℕ) (old : Indexed t n heads links) (room : n < 8192) (h : 16 * n + 16 ≤ length t)
    (b : Narrow x) (new : member (places_in t n) x ≡ false) where
  abbrev t+ : List ℕ
  t+ = put_row t n x

  there : place_in t+ n ≡ x
  there = place_placed t n x h b

  kept : (i m : ℕ) → i ≤ n → last t+ i m ≡ last t i m
  kept i m le = last_same t+ t i m (λ j l. place_below_placed t n x j (omega arith))

  heads_at : (m : ℕ) → m < 8192 → (c : Bool) → eqb (hash x) m ≡ c → get_or (set heads (hash x) (n + 1)) m 0 ≡ pick c (suc n) (last t n m)
  heads_at m l true e =
      rw (← eqb-true (hash x) m e) (get_or-set_same heads (hash x) (n + 1) 0 (omega (arith, hash_lt x, old.head_room)) ∙ add-one n)
  heads_at m l false e = get_or-set_other heads (hash x) m (n + 1) 0 (λ q. eqb-false (hash x) m e (sym q)) ∙ old.head m l

  links_at : (i : ℕ) → (i ≡ n) ⊎ (i < n) → get_or (set links n (get_or heads (hash x) 0)) i 0 ≡ last t+ i (hash (place_in t+ i))
  links_at i (inl e) =
      rw (e, there) (get_or-set_same links n (get_or heads (hash x) 0) 0 (omega (arith, old.link_room)) ∙ old.head (hash x) (hash_lt x)
      ∙ sym (kept n (hash x) (omega arith)))
  links_at i (inr m) =
      get_or-set_other links n i (get_or heads (hash x) 0) 0 (omega arith) ∙ old.link i m
      ∙ rw (place_below_placed t n x i m) (sym (kept i (hash (place_in t i)) (omega arith)))

  shows_at : (i : ℕ) → (i ≡ n) ⊎ (i < n) → ShowsIn t+ i
  shows_at i (inl e) = rw e (shows_placed t n x h b)
  shows_at i (inr m) = shows_same t+ t i (row_below_placed t n x i m) (old.shows i m)

  apart_at : (i j : ℕ) → i < j → (j ≡ n) ⊎ (j < n) → same_place (place_in t+ i) (place_in t+ j) ≡ false
  apart_at i j l (inl e) = rw (e, there, place_below_placed t n x i (omega arith)) (none_there t n x new i (omega arith))
  apart_at i j l (inr m) = rw (place_below_placed t n x i (omega arith), place_below_placed t n x j m) (old.apart i j l m)

  at_most : (i : ℕ) → i < n + 1 → (i ≡ n) ⊎ (i < n)
  at_most i l = eq-or-lt_of_le (le_of_suc-le-suc (rw add-one at l))

  index_put : Indexed t+ (n + 1) (set heads (hash x) (n + 1)) (set links n (get_or heads (hash x) 0))
  unfolding last
  index_put =
      record {
        head_room = length-set heads (hash x) (n + 1) ∙ old.head_room;
        link_room = length-set links n (get_or heads (hash x) 0) ∙ old.link_room;
        head = λ m l. heads_at m l (eqb (hash x) m) refl ∙ sym (rw (add-one n, there, kept n m (omega arith)));
        link = λ i l. links_at i (at_most i l);
        shows = λ i l. shows_at i (at_most i l);
        apart = λ i j l m. apart_at i j l (at_most j m);
      }

-- a table ready for more, as it is read
pub ready_tabled : {room n : ℕ} {t h l : List ℕ} → Ready room t n h l → Tabled t n h l
ready_tabled r = record { fits = omega (arith, r.within, r.fits); few = omega (arith, r.within, r.few); index = r.index }

-- a table ready for more, with one place more
pub ready_put : {room : ℕ} {t : List ℕ} {n : ℕ} {heads links : List ℕ} (x : Place) → Ready room t n heads links → n < room → Narrow x
    → member (places_in t n) x ≡ false
    → Ready room (put_row t n x) (n + 1) (set heads (hash x) (n + 1)) (set links n (get_or heads (hash x) 0))
ready_put {room} {t} {n} {heads} {links} x r m b new =
    record {
      within = omega arith;
      fits = rw (length_placed t n x) r.fits;
      few = r.few;
      index = index_put t n x heads links r.index (omega arith) (omega arith) b new;
    }

-- a table whose places are the same
pub ready_same : {room : ℕ} {t : List ℕ} {n : ℕ} {heads links : List ℕ} (m : List ℕ) → length m ≡ length t → ((i : ℕ) → i < n → SameRow m t i)
    → Ready room t n heads links → Ready room m n heads links
ready_same {room} {t} {n} {heads} {links} m l s r =
    record { within = r.within; fits = rw l r.fits; few = r.few; index = index_same t m heads links n s r.index }

-- what was looked for is a member of the list exactly where it was found
pub found_member : (x : Place) (ps : List Place) → is_some (found x ps) ≡ member ps x
unfolding found
found_member x ps = sym (member_number x ps ∙ go (ltb (number_of x ps) (length ps)))
  where
    go : (b : Bool) → b ≡ is_some (pick b (Some (number_of x ps)) None)
    go true = refl
    go false = refl

-- what was found, by its number
module _ (x : Place) (ps : List Place) where
  pub found_some : {i : ℕ} → Some i ≡ found x ps → (i ≡ number_of x ps) × (ltb (number_of x ps) (length ps) ≡ true)
  unfolding found
  found_some {i} e = go (ltb (number_of x ps) (length ps)) refl e
    where
      go : (b : Bool) → ltb (number_of x ps) (length ps) ≡ b → Some i ≡ pick b (Some (number_of x ps)) None
          → (i ≡ number_of x ps) × (ltb (number_of x ps) (length ps) ≡ true)
      go true t h = (cc, t)
      go false t h = cc

  pub found_nothing : None ≡ found x ps → ltb (number_of x ps) (length ps) ≡ false
  unfolding found
  found_nothing e = go (ltb (number_of x ps) (length ps)) refl e
    where
      go : (b : Bool) → ltb (number_of x ps) (length ps) ≡ b → None ≡ pick b (Some (number_of x ps)) None → ltb (number_of x ps) (length ps) ≡ false
      go true t h = cc
      go false t h = t
