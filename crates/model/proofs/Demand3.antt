-- Demand 3.
use Prim.Native.Nat.{ℕ, suc, ◌+◌, ◌-◌, ◌*◌, ◌^◌, ◌≤◌, ◌<◌, min}
use native.Mathlib.Nat.{zero-add}
use native.Mathlib.Omega.{arith}
use mathlib.Core.Path.{◌≡◌, refl, sym, ap, ◌∙◌}
use mathlib.Core.Bool.{Bool, true, false, false≢true}
use mathlib.Core.List.{List}
use mathlib.Core.Option.{none, some}
use lib.ListN.{length, get_or, take}
use lib.Seq.{take_all}
use Rattle.numbers.specs.Number.{Below, plus, bytes_of}
use Rattle.numbers.proofs.Bounds.{below_bytes}
use Rattle.machine.specs.Ends.{ending, halt, State, state, live, settle}
use Rattle.machine.specs.Registers.{y_of}
use Rattle.windows.specs.Windows.{nesting_of, place_of, laid as laidDown, come_in}
use Rattle.effects.specs.Effect.{Machine, machine}
use Rattle.windows.proofs.Ring.{laid_low, laid_free, laid_own, laid_length, laid_nesting, in_low, in_nesting, in_free}
use Rattle.model.specs.declared.Place.{Place}
use Rattle.model.specs.Run.{step, run}
use Rattle.model.specs.OldCore.{old, in_image, old_begun}
use Rattle.model.specs.Places.{plain, member, Makes}
use Rattle.model.specs.Walk.{table, places_of}
use Rattle.model.specs.Records.{in_full, first, rows_of, records_of, rows_in, records_in, numbers_in, table_numbers, records_numbers}
use Rattle.model.specs.NewCore.{New, new, seek, begun_at, new_begun}
use Rattle.model.specs.Translation.{accepted, Handed, translation, place_room}
use Rattle.model.specs.Trails.{whole_file, shown_of, Core, Trail, at, trail, entry, entries, closing, opening, later, Unspent, reached, stood, landed}
use Rattle.model.specs.Cores.{Start, start_machine, old_over, new_over, old_begin, new_begin, steps_for, trail_of, new_trail_at}
use Rattle.model.specs.Demand3.{Placed, Begins, Complete, Strays, Equal, Claim, Holds, Demand3}
use Rattle.model.proofs.Shown.{whole_length, begun_held, begun_shows, begun_again, get_other}
use Rattle.model.proofs.Hop.{Over}
use Rattle.model.proofs.Trails.{steady_on, Cut, cuts, run_suc, traced_so, as_many_so, Ended, ends_so, closes_so}
use Rattle.model.proofs.Follows.{Closed, Follower, Meet}
use Rattle.model.proofs.OldSide.{old_over_lem, old_follower}
use Rattle.model.proofs.Groups.{sought, not_sought}
use Rattle.model.proofs.NewSide.{new_follower}
use Rattle.model.proofs.Simulation.{Same}
use Rattle.model.proofs.Comparison.{number, value, Verdict, alike, left_ended, right_ended, verdict, last_six, gaps_new, new_unspent, by_entries, by_take, old_unspent, gaps_old, trail_from, first_entry, from_one, from_two}
use Rattle.model.proofs.Six.{Fell, six_fell, kind_6_goes, six_lands, new_over_lem}
use Rattle.model.proofs.Walk.{places_closed, places_fit, member_made, made_member}
use Rattle.model.proofs.Packed.{table_back, records_back}
use Rattle.model.proofs.Accepted.{words_lt, numbers_lt, entries_aligned, Took, took}

-- ---------------------------------------------------------------- the first entry is the start
same_nesting : (rs : List ℕ) → nesting_of (whole_file rs) ≡ nesting_of rs
unfolding nesting_of
same_nesting rs = get_other rs 33 (omega arith) (omega arith)

begins : (x : Start) (t rest : Trail) → t ≡ at 0 x.address (shown_of (start_machine x)) rest → Begins x t
unfolding y_of
begins x t rest e =
    let s : List ℕ = whole_file x.registers in
    let rs : List ℕ = come_in s in
    let h = begun_held x.registers in
    let low : (i : ℕ) → 1 ≤ i → i < 33 → get_or (laidDown rs) i 0 ≡ get_or x.registers i 0 =
    λ i l k. laid_low rs i (omega arith) ∙ in_low s i k ∙ get_other x.registers i l (omega arith) in
    let n : nesting_of rs ≡ min (nesting_of s) 6 = in_nesting s (whole_length x.registers) in
    record {
      registers = laidDown rs;
      flags = x.flags;
      area = take 65536 x.area;
      rest = rest;
      first = e ∙ ap (λ (m : Machine). at 0 x.address m rest) (begun_shows (machine x.registers x.flags x.area));
      whole = laid_length rs ∙ h.whole;
      register_0 = laid_low rs 0 (omega arith) ∙ h.zero;
      others = λ i l k. low i l (omega arith);
      same_y = low 32 (omega arith) (omega arith);
      nesting = laid_nesting rs ∙ n ∙ ap (λ w. min w 6) (same_nesting x.registers);
      current = λ r l k.
          let q : 8 + (r - 8) ≡ r = omega arith in
          rw (laid_nesting rs) (rw q at (laid_own rs h.whole (r - 8) (omega arith)) ∙ sym (laid_low rs r (omega arith)));
      windows = λ i l k f.
          let g : (j : ℕ) → j < 24 → i ≡ place_of (nesting_of rs) (8 + j) → ⊥ = λ j m z. f (8 + j) (omega arith) (omega arith) (rw (laid_nesting rs) z) in
          laid_free rs i g ∙ in_free s i l (rw n at g) ∙ get_other x.registers i (omega arith) k;
      same_flags = refl;
      same_area = refl;
    }

-- ---------------------------------------------------------------- the trail is complete
halts_so : {S : Type 0} (c : Core S) (n v steps : ℕ) (x : State S) (last : S) → run c.next steps x ≡ live last → c.next last ≡ halt (ending (suc n) v)
    → run c.next (suc steps) x ≡ state last (ending (suc n) v)
unfolding step settle
halts_so c n v steps x last g h = run_suc c steps x ∙ rw (g, h)

pub complete : {S : Type 0} (c : Core S) → ((s : S) → Over c (c.next s)) → (k : ℕ) (s : S) → Unspent (trail_of c k (live s)) → Complete c k (live s)
unfolding run
complete c over k s u =
    let q : trail c (steps_for (suc k)) k 0 (live s) ≡ trail_of c k (live s) = steady_on c (steps_for k) (steps_for (suc k)) k 0 (live s) (omega arith) u in
    let w : Cut c k (trail c (steps_for (suc k)) k 0 (live s)) (trail_of c (suc k) (live s)) = cuts c (steps_for (suc k)) k 0 (live s) (rw q u) in
    record {
      traced = traced_so c (steps_for k) k 0 (live s) (live s) refl;
      as_many = λ n. let f = steps_for k + suc n in
          let i : reached (0 + n) (later (trail c f k 0 (live s))) ≡ min (stood c n (live s) + landed c (run c.next n (live s))) k =
          as_many_so c n f k 0 (live s) (omega arith) in
          rw (zero-add, steady_on c (steps_for k) f k 0 (live s) (omega arith) u) at i;
      unspent = u;
      steady = λ f l. steady_on c (steps_for k) f k 0 (live s) l u;
      full_cut = (cuts c (steps_for k) k 0 (live s) u).filled;
      cut_where = (λ e. w.there (ap closing q ∙ e), λ e. sym (ap closing q) ∙ w.back e);
      ends_as = λ n v e. let i : Ended c k n v (live s) = ends_so c over n v (steps_for k) k 0 s e u in
          (suc i.steps, (i.last, halts_so c n v i.steps (live s) i.last i.going i.halts));
    }

-- ---------------------------------------------------------------- of a walk that gave ps, and bytes that hold its table and records
module _ (image : List ℕ) (base db : ℕ) (es : List ℕ) (cap : ℕ) (ps : List Place) (records places : List ℕ)
    (made : places_of image base cap es ≡ table ps) (C : Closed image base ps) (few : length ps ≤ 8192)
    (er : rows_in places ≡ rows_of (in_full image base) ps) (ec : records_in records ≡ records_of (in_full image base) ps) where
  abbrev placed : ℕ → Type 0
  placed a = Makes image base es (plain a)

  abbrev N : Core New
  N = new_over records places base (length image) db

  in_list : (a : ℕ) → placed a → member ps (plain a) ≡ true
  in_list a h = made_member image base cap es ps made C (plain a) h

  not_in_list : (h : ℕ) → ¬ placed h → (b : Bool) → member ps (plain h) ≡ b → b ≡ false
  not_in_list h n true q = absurd (n (member_made image base cap es ps made (plain h) q))
  not_in_list h n false q = refl

  -- both cores follow the list's places
  abbrev F : Follower image base db (old_over image base db)
  F = old_follower image base db ps C

  abbrev G : Follower image base db N
  G = new_follower image base db ps records places er ec C few

  meet : Meet F G
  meet a i j = (j, j)

  module _ (k : ℕ) (lk : 1 ≤ k) (x y : Start) (hx : placed x.address) (hy : placed y.address) where
    abbrev begun : New
    begun = G.to (plain y.address) 0 (start_machine y)

    abbrev t : Trail
    t = trail_from image base db F (steps_for k) k x.address (start_machine x)

    abbrev u : Trail
    u = trail_from image base db G (steps_for k) k y.address (start_machine y)

    -- the old core begun where the new one is
    abbrev beside : Trail
    beside = trail_from image base db F (steps_for k) k y.address (start_machine y)

    abbrev strays : ℕ → Type 0
    strays h = Strays placed (in_image base (length image)) N k (live begun) h

    alike_begun : Same F.goes G.goes 0 beside u
    alike_begun =
        from_one image base db F G meet (steps_for k) (steps_for k) k y.address (start_machine y) (omega arith) (omega arith)
        (in_list y.address hy) (in_list y.address hy)

    -- where the first entries are equal
    same : opening t ≡ opening u → Verdict F.goes G.goes t u
    same e =
        verdict F.goes G.goes t u (from_two image base db F G meet (steps_for k) (steps_for k) k x.address y.address (start_machine x) (start_machine y)
        (omega arith) (omega arith) lk (begun_again (machine x.registers x.flags x.area)) (begun_again (machine y.registers y.flags y.area))
        (in_list x.address hx) (in_list y.address hy) e)

    u_unspent : Unspent u
    u_unspent = new_unspent F.goes G.goes (λ a. refl) beside u alike_begun

    t_unspent : Unspent t
    t_unspent = old_unspent image base db (steps_for k) k 0 (live (old (start_machine x) x.address (plus x.address 4) false)) (omega arith)

    u_first : (rest : Trail) × (u ≡ at 0 y.address (shown_of (start_machine y)) rest)
    u_first = first_entry image base db G (steps_for k) k y.address (start_machine y) (omega arith) lk (in_list y.address hy)

    t_first : (rest : Trail) × (t ≡ at 0 x.address (shown_of (start_machine x)) rest)
    t_first = first_entry image base db F (steps_for k) k x.address (start_machine x) (omega arith) lk (in_list x.address hx)

    -- ------------------------------------------------------------ end 6
    missed : (g : ℕ) → seek (rows_in places) g ≡ none → placed g → ⊥
    unfolding rows_of
    missed g n p =
        let q : seek (rows_in places) g ≡ some (0 + first (in_full image base) ps (plain g)) = rw er (sought (in_full image base) ps 0 g (in_list g p)) in
        let z : ◌≡◌ {A = ℕ} 0 1 = cc in
        omega arith

    strays_of : (h steps : ℕ) (last : New) → run N.next steps (live begun) ≡ live last → N.next last ≡ halt (ending 6 h)
        → ((v : ℕ) → N.by_held last ≡ some v → stood N steps (live begun) < k) → strays h
    strays_of h steps (new m r g) go ends room =
        let f : Fell records places base (length image) db r g h = six_fell records places base (length image) db m r g h ends in
        let b : N.by_held (new m r g) ≡ some g = kind_6_goes records places base (length image) db m r g f.kind_6 in
        record {
          steps = steps;
          there = new m r g;
          going = go;
          by_held_lem = b ∙ ap some (sym f.held_at);
          address_in_image = rw f.held_at f.address_in_image;
          no_place = λ p. missed g f.missed (rw f.held_at at p);
          room = room g b;
        }

    six_there : (h : ℕ) → closing u ≡ ending 6 h → strays h
    six_there h e =
        let i : Ended N k 5 h (live begun) = ends_so N (new_over_lem records places base (length image) db) 5 h (steps_for k) k 0 begun e u_unspent in
        strays_of h i.steps i.last i.going i.halts i.room

    not_found : (h : ℕ) → ¬ placed h → seek (rows_in places) h ≡ none
    unfolding rows_of
    not_found h n = rw er (not_sought (in_full image base) ps 0 h (not_in_list h n (member ps (plain h)) refl))

    six_back : (h : ℕ) → strays h → closing u ≡ ending 6 h
    six_back h s =
        sym (ap closing (steady_on N (steps_for k) (steps_for k + suc s.steps) k 0 (live begun) (omega arith) u_unspent))
        ∙ go s.there s.going s.by_held_lem
      where
        go : (v : New) → run N.next s.steps (live begun) ≡ live v → N.by_held v ≡ some h
            → closing (trail N (steps_for k + suc s.steps) k 0 (live begun)) ≡ ending 6 h
        go (new m r g) e b =
            closes_so N (new_over_lem records places base (length image) db) h (shown_of m) (ending 6 h) (new m r g)
            (six_lands records places base (length image) db m r g h b (not_found h s.no_place) s.address_in_image) s.steps
            (steps_for k + suc s.steps) k 0 begun (omega arith) e s.room

    -- equal, where nothing strayed
    equal_so : ((h : ℕ) → ¬ strays h) → Verdict F.goes G.goes t u → Equal t u
    equal_so nowhere (alike p q) = (p, q)
    equal_so nowhere (left_ended a i j e p) = absurd (false≢true (sym i))
    equal_so nowhere (right_ended a i j e p) = absurd (nowhere a (six_there a e))

    six_so : Verdict F.goes G.goes t u → take (length (entries u)) (entries t) ≡ entries u
    six_so (alike p q) = rw p (take_all (length (entries u)) (entries u) (omega arith))
    six_so (left_ended a i j e p) = absurd (false≢true (sym i))
    six_so (right_ended a i j e p) = p

    claim : Claim strays t u
    claim =
        record {
          equal = λ none. (λ p. by_entries t u p.0, λ e. equal_so none (same e));
          six = λ h. (six_there h, six_back h);
          six_is_last = λ h s. last_six F.goes G.goes (λ a. refl) 0 beside u alike_begun (ap number (six_back h s)) ∙ ap value (six_back h s);
          six_equal = λ h s. (by_take t u (entry y.address (shown_of (start_machine y))) (ap opening u_first.1), λ e. six_so (same e));
          new_pace = gaps_new F.goes G.goes (λ a. refl) beside u alike_begun;
          old_pace = gaps_old image base db (steps_for k) k x.address (start_machine x) (omega arith) lk;
        }

    from_live : Holds placed (in_image base (length image)) k x y (old_over image base db)
        (live (old (start_machine x) x.address (plus x.address 4) false)) N (live begun)
    from_live =
        record {
          old_begins_lem = begins x t t_first.0 t_first.1;
          new_begins_lem = begins y u u_first.0 u_first.1;
          old_complete = complete (old_over image base db) (old_over_lem image base db) k (old (start_machine x) x.address (plus x.address 4) false) t_unspent;
          new_complete = complete N (new_over_lem records places base (length image) db) k begun u_unspent;
          claim = claim;
        }

    new_begun_lem : new_begin places base (length image) y ≡ live begun
    unfolding new_begun begun_at rows_of
    new_begun_lem = rw (er, sought (in_full image base) ps 0 y.address (in_list y.address hy), zero-add)

    pub from_begin : Holds placed (in_image base (length image)) k x y (old_over image base db) (old_begin x) N
        (new_begin places base (length image) y)
    unfolding old_begun
    from_begin = rw new_begun_lem from_live

-- ------------------------------------------------------------------ of the bytes that the translator left
-- an accepted call: the places that the walk found, and bytes that hold their table and records
pub record Laid (image : List ℕ) (base : ℕ) (entryList : List ℕ) (cap : ℕ) (places records : List ℕ) : Type 0 where
  pub ps : List Place
  pub made : places_of image base cap (numbers_in entryList) ≡ table ps
  pub closed : Closed image base ps
  pub few : length ps ≤ 8192
  pub table_read : rows_in places ≡ rows_of (in_full image base) ps
  pub records_read : records_in records ≡ records_of (in_full image base) ps
  pub places_bytes : Below 256 places
  pub records_bytes : Below 256 records

pub laid : (image : List ℕ) (base : ℕ) (entryList : List ℕ) (placesLength recordsLength placeCount recordCount : ℕ)
    → Below 256 image → Below 256 entryList → (handed : Handed) → handed ≡ translation image base entryList placesLength recordsLength
    → handed.answer ≡ accepted placeCount recordCount
    → (places records : List ℕ) → places ≡ take (16 * placeCount) handed.places → records ≡ take (12 * recordCount) handed.records
    → Laid image base entryList (place_room placesLength) places records
unfolding place_room
laid image base entryList placesLength recordsLength placeCount recordCount ib eb handed eh answered places records et er =
    let es = numbers_in entryList in
    let tk : Took image base entryList placesLength recordsLength placeCount recordCount
    (translation image base entryList placesLength recordsLength) =
    took image base entryList placesLength recordsLength placeCount recordCount (ap (λ (z : Handed). z.answer) (sym eh) ∙ answered) in
    let C : Closed image base tk.ps =
    places_closed image base (place_room placesLength) es tk.ps (entries_aligned base (length image) 0 es (numbers_lt entryList eb) tk.good) tk.made in
    let few : length tk.ps ≤ 8192 = omega (arith, places_fit image base (place_room placesLength) es tk.ps tk.made) in
    let p : places ≡ bytes_of (table_numbers (rows_of (in_full image base) tk.ps)) = et ∙ ap (λ (z : Handed). take (16 * placeCount) z.places) eh ∙ tk.table_bytes in
    let r : records ≡ bytes_of (records_numbers (records_of (in_full image base) tk.ps)) =
    er ∙ ap (λ (z : Handed). take (12 * recordCount) z.records) eh ∙ tk.record_bytes in
    record {
      ps = tk.ps;
      made = tk.made;
      closed = C;
      few = few;
      table_read = ap rows_in p ∙ table_back image base (words_lt image base ib) tk.ps C.aligned few;
      records_read = ap records_in r ∙ records_back image base (words_lt image base ib) tk.ps C.aligned few;
      places_bytes = rw p (below_bytes (table_numbers (rows_of (in_full image base) tk.ps)));
      records_bytes = rw r (below_bytes (records_numbers (records_of (in_full image base) tk.ps)));
    }

-- an address with a plain place is in the list that the walk found, and so is a number of 32 bits and found in the table
module _ (image : List ℕ) (base : ℕ) (entryList : List ℕ) (cap : ℕ) (places records : List ℕ) (L : Laid image base entryList cap places records) (a : ℕ)
    (h : Placed image base entryList a) where
  listed : member L.ps (plain a) ≡ true
  listed = made_member image base cap (numbers_in entryList) L.ps L.made L.closed (plain a) h

  pub placed_lt : a < 2 ^ 32
  placed_lt = (L.closed.aligned_at (plain a) listed).2

  pub finds : seek (rows_in places) a ≡ some (0 + first (in_full image base) L.ps (plain a))
  unfolding rows_of
  finds = rw L.table_read (sought (in_full image base) L.ps 0 a listed)

-- so the trail that demand 3 speaks of is the one that the new core has from its begin
pub begun_trail : (image : List ℕ) (base : ℕ) (entryList : List ℕ) (cap : ℕ) (places records : List ℕ) → Laid image base entryList cap places records
    → (y : Start) → Placed image base entryList y.address → (db k : ℕ)
    → new_trail_at (new_over records places base (length image) db) (steps_for k) k y.address (new_begin places base (length image) y)
    ≡ trail_of (new_over records places base (length image) db) k (new_begin places base (length image) y)
unfolding new_trail_at new_begun begun_at
begun_trail image base entryList cap places records L y h db k = rw (finds image base entryList cap places records L y.address h)

pub demand3 : Demand3
unfolding Demand3
demand3 image base entryList placesLength recordsLength placeCount recordCount ib eb handed eh answered x y hx hy db k lk places records et er =
    let L = laid image base entryList placesLength recordsLength placeCount recordCount ib eb handed eh answered places records et er in
    from_begin image base db (numbers_in entryList) (place_room placesLength) L.ps records places L.made L.closed L.few L.table_read
    L.records_read k lk x y hx hy
