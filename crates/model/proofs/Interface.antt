-- Demand 3 on bytes: a call of count 1 is a step, so the trails read off the bytes are those of the cores. And runs add up.
use Prim.Native.Nat.{ℕ, zero, suc, ◌+◌, ◌%◌, ◌^◌, ◌≤◌, ◌<◌, ◌*◌}
use native.Mathlib.Omega.{arith}
use mathlib.Core.Path.{◌≡◌, refl, sym, ap, ◌∙◌, subst}
use mathlib.Core.Logic.{◌↔◌}
use mathlib.Core.Bool.{Bool, true, false}
use mathlib.Core.List.{List, [], ◌∷◌}
use mathlib.Core.Option.{none, some}
use lib.Dec.{eqb}
use lib.ListN.{length, take-append-drop, length-take, take}
use Rattle.std.specs.Prelude.{Ok, Err}
use Rattle.numbers.specs.Choice.{pick}
use Rattle.numbers.specs.Number.{Below, plus, number_at}
use Rattle.numbers.proofs.Bounds.{plus_lt}
use Rattle.words.specs.Conditions.{bit_of}
use Rattle.machine.specs.Ends.{Ending, ending, State, live}
use Rattle.effects.specs.Effect.{Machine}
use Rattle.model.specs.Run.{run, data_of}
use Rattle.model.specs.OldCore.{Old, old, old_machine, in_image, old_next, old_begun}
use Rattle.model.specs.Places.{plain}
use Rattle.model.specs.Records.{in_full, first, rows_in}
use Rattle.model.specs.NewCore.{New, new, new_machine, new_next, seek, begun_at, new_begun}
use Rattle.model.specs.declared.Refusal.TheVariants.{ImageLength, Base, Entry, Forbidden, NoRoom, RecordsShort}
use Rattle.model.specs.Translation.{Answer, accepted, answer_numbers, refusal_numbers, Handed, translation, place_room, Back}
use Rattle.model.specs.Trails.{shown_of, Core, shown_at, Unspent}
use Rattle.model.specs.Cores.{old_mark, old_over, new_mark, new_by_held, new_over, old_begin, new_begin, steps_for, trail_of}
use Rattle.model.specs.Demand3.{Placed, Complete, Strays, Holds, Demand3}
use Rattle.model.specs.StateBytes.{old_behind, new_behind, machine_in, old_in, old_bytes, new_in, new_bytes, After, old_after, new_after, old_begins, old_runs, new_begins, new_runs, OldRunsAdd, NewRunsAdd}
use Rattle.model.specs.Interface.{Bytes, bytes, answered, called, bytes_machine, old_bytes_mark, old_calls, new_bytes_mark, new_bytes_by_held, new_calls, old_started, new_started, start_of, ReadOff, Interface}
use Rattle.model.proofs.Hop.{Over}
use Rattle.model.proofs.Bounds.{SoundOld, SoundNew, found_lt}
use Rattle.model.proofs.RoundTrip.{data_back, machine_sound}
use Rattle.model.proofs.Shown.{shown_sound, shown_again, start_begun}
use Rattle.model.proofs.Related.{Beside, Related, run_beside, trail_same, strays_on, flipped, flip_beside, holds_on}
use Rattle.model.proofs.Coded.{runs_add, Holding, called_step}
use Rattle.model.proofs.Calls.{old_area, old_coded, old_sound, old_pc, old_annul, old_shows, new_area, new_coded, new_sound, new_record, new_held, new_shows}
use Rattle.model.proofs.Demand3.{complete, Laid, laid, placed_lt, finds, demand3}

-- ---------------------------------------------------------------- a run of m and then one of n is a run of m + n
pub old_runs_add : OldRunsAdd
unfolding OldRunsAdd old_runs
old_runs_add image base db m n bs l b d =
    runs_add (old_next image base db) old_after old_in old_area SoundOld (old_coded image base db) m n bs l (old_sound bs l b d)

pub new_runs_add : NewRunsAdd
unfolding NewRunsAdd new_runs
new_runs_add records places base size db m n bs l br bp b d =
    runs_add (new_next records places base size db) new_after new_in new_area SoundNew (new_coded records places base size db br bp) m n bs l (new_sound bs l b d)

-- ---------------------------------------------------------------- the old core on bytes
data_few : (l : List ℕ) → length (data_of l) ≤ 65536
data_few l = omega (arith, length-take 65536 l)

module _ (image : List ℕ) (base db : ℕ) (l : List ℕ) where
  abbrev OldHolds : Bytes → Old → Type 0
  OldHolds = Holding (old_next image base db) old_after old_in old_area SoundOld (old_coded image base db) l

  old_marks : (b : Bytes) (s : Old) → OldHolds b s → old_bytes_mark b ≡ old_mark s
  unfolding old_bytes_mark old_mark old_after bit_of
  old_marks b (old m pc npc annul) h =
      let n = length (data_of l) in
      rw (h.0, old_annul n m pc npc annul 0 0 (h.1, refl), old_pc n m pc npc annul 0 0 (h.1, refl)) (go annul)
    where
      go : (a : Bool) → pick (eqb (bit_of a) 0) (some pc) none ≡ old_mark (old m pc npc a)
      go true = refl
      go false = refl

  -- the bytes hold what is shown of the state, and so show it
  pub old_holds : (b : Bytes) (s : Old) → OldHolds b s → bytes_machine old_behind b ≡ shown_of (old_machine s)
  unfolding bytes_machine old_after
  old_holds b (old m pc npc annul) h =
      let n = length (data_of l) in
      rw (h.0, (data_back l m.area h.1.0.sized).0, old_shows n m pc npc annul 0 0 (h.1, refl), shown_sound n m h.1.0 (data_few l))

  old_shown_same : (b : Bytes) (s : Old) → OldHolds b s → shown_of (bytes_machine old_behind b) ≡ shown_of (old_machine s)
  old_shown_same b (old m pc npc annul) h =
      ap shown_of (old_holds b (old m pc npc annul) h) ∙ shown_again (length (data_of l)) m h.1.0 (data_few l)

  pub old_related : Related (old_calls image base db) (old_over image base db) OldHolds
  unfolding old_runs
  old_related =
      record {
        marks = old_marks;
        shows = old_shown_same;
        goes = λ b s h. refl;
        steps = λ b s h. called_step (old_next image base db) old_after old_in old_area SoundOld (old_coded image base db) l b s h;
      }

  -- begun bytes hold the begun state
  pub old_beside : (p : ℕ) (bs : List ℕ) → Below 256 bs → Below 256 l → p < 2 ^ 32 → Beside OldHolds (old_started p (bytes bs l)) (old_begin (start_of old_behind p (bytes bs l)))
  unfolding old_begins old_bytes old_after machine_in old_begun
  old_beside p bs b d lp =
      let m : Machine = machine_in old_behind bs (data_of l) in (
        old m p (plus p 4) false,
        (
          rw (start_begun old_behind bs (number_at bs 128 % 16) l),
          (
            ap (λ (a : List ℕ). bytes (old_bytes (live (old m p (plus p 4) false))) a) (sym (take-append-drop 65536 l)),
            (machine_sound old_behind bs l b d, lp, plus_lt p 4),
          ),
        ),
      )

-- ---------------------------------------------------------------- the new core on bytes
module _ (records places : List ℕ) (base size db : ℕ) (br : Below 256 records) (bp : Below 256 places) (l : List ℕ) where
  abbrev NewHolds : Bytes → New → Type 0
  NewHolds = Holding (new_next records places base size db) new_after new_in new_area SoundNew (new_coded records places base size db br bp) l

  new_marks : (b : Bytes) (s : New) → NewHolds b s → new_bytes_mark places b ≡ new_mark places s
  unfolding new_bytes_mark new_mark new_after
  new_marks b (new m r g) h = rw (h.0, new_record (length (data_of l)) m r g 0 0 (h.1, refl))

  new_goes : (b : Bytes) (s : New) → NewHolds b s → new_bytes_by_held records b ≡ new_by_held records s
  unfolding new_bytes_by_held new_by_held new_after
  new_goes b (new m r g) h =
      let n = length (data_of l) in
      rw (h.0, new_record n m r g 0 0 (h.1, refl), new_held n m r g 0 0 (h.1, refl))

  pub new_holds : (b : Bytes) (s : New) → NewHolds b s → bytes_machine new_behind b ≡ shown_of (new_machine s)
  unfolding bytes_machine new_after
  new_holds b (new m r g) h =
      let n = length (data_of l) in
      rw (h.0, (data_back l m.area h.1.0.sized).0, new_shows n m r g 0 0 (h.1, refl), shown_sound n m h.1.0 (data_few l))

  new_shown_same : (b : Bytes) (s : New) → NewHolds b s → shown_of (bytes_machine new_behind b) ≡ shown_of (new_machine s)
  new_shown_same b (new m r g) h = ap shown_of (new_holds b (new m r g) h) ∙ shown_again (length (data_of l)) m h.1.0 (data_few l)

  pub new_related : Related (new_calls records places base size db) (new_over records places base size db) NewHolds
  unfolding new_runs
  new_related =
      record {
        marks = new_marks;
        shows = new_shown_same;
        goes = new_goes;
        steps = λ b s h. called_step (new_next records places base size db) new_after new_in new_area SoundNew (new_coded records places base size db br bp) l b s h;
      }

  pub new_beside : (q f : ℕ) (bs : List ℕ) → Below 256 bs → Below 256 l → f < 2 ^ 32 → seek (rows_in places) q ≡ some f
      → Beside NewHolds (new_started places base size q (bytes bs l)) (new_begin places base size (start_of new_behind q (bytes bs l)))
  unfolding new_begins new_bytes new_after machine_in new_begun begun_at
  new_beside q f bs b d lf e =
      let m : Machine = machine_in new_behind bs (data_of l) in
      rw e (
        new m f 0,
        (
          rw (start_begun new_behind bs (number_at bs 128 % 16) l),
          (ap (λ (a : List ℕ). bytes (new_bytes (live (new m f 0))) a) (sym (take-append-drop 65536 l)), (machine_sound new_behind bs l b d, lf, omega arith)),
        ),
      )

  pub new_live : (q f : ℕ) (bs : List ℕ) → seek (rows_in places) q ≡ some f
      → new_started places base size q (bytes bs l) ≡ live (bytes (new_bytes (live (new (machine_in new_behind bs []) f 0))) l)
  unfolding new_begins new_after new_begun begun_at
  new_live q f bs e = rw e

-- ---------------------------------------------------------------- demand 3 on bytes
-- a call ends only with an end above 0
over_answered : (c : Core Bytes) (e : Ending) (b : Bytes) → Over c (answered e b)
unfolding answered
over_answered c (ending zero v) b = tt
over_answered c (ending (suc n) v) b = omega arith

over_called : (c : Core Bytes) (x : After) → Over c (called x)
unfolding called
over_called c x = over_answered c x.ended (bytes x.state x.area)

-- so what is shown of bytes, wherever calls come to, is what stands in them
as_it_stands : {S : Type 0} (c : Core Bytes) (d : Core S) (R : Bytes → S → Type 0) → Related c d R
    → ((b : Bytes) (s : S) → R b s → c.machine_of b ≡ shown_at d s) → (x : State Bytes) (y : State S) → Beside R x y
    → (count : ℕ) (b : Bytes) → run c.next count x ≡ live b → shown_at c b ≡ c.machine_of b
as_it_stands c d R Q holds x y r count b e =
    let q : Beside R (live b) (run d.next count y) = rw e at (run_beside c d R Q count x y r) in
    Q.shows b q.0 q.1.1 ∙ sym (holds b q.0 q.1.1)

complete_at : (c : Core Bytes) → ((b : Bytes) → Over c (c.next b)) → (k : ℕ) (x : State Bytes) (b : Bytes) → x ≡ live b → Unspent (trail_of c k x) → Complete c k x
complete_at c over k x b e u = subst (Complete c k) (sym e) (complete c over k b (subst (λ (z : State Bytes). Unspent (trail_of c k z)) e u))

-- of an accepted call's places and records
module _ (image : List ℕ) (base : ℕ) (entryList : List ℕ) (cap : ℕ) (places records : List ℕ) (L : Laid image base entryList cap places records) (db : ℕ) where
  abbrev size : ℕ
  size = length image

  abbrev OC : Core Bytes
  OC = old_calls image base db

  abbrev NC : Core Bytes
  NC = new_calls records places base size db

  over_old : (b : Bytes) → Over OC (OC.next b)
  over_old b = over_called OC (old_runs image base db 1 b.state b.area)

  over_new : (b : Bytes) → Over NC (NC.next b)
  over_new b = over_called NC (new_runs records places base size db 1 b.state b.area)

  module _ (b c : Bytes) (bb : Below 256 b.state) (bd : Below 256 b.area) (cb : Below 256 c.state) (cd : Below 256 c.area)
      (p q : ℕ) (lp : p < 2 ^ 32) (hq : Placed image base entryList q) (k : ℕ) where
    old_trails : trail_of OC k (old_started p b) ≡ trail_of (old_over image base db) k (old_begin (start_of old_behind p b))
    old_trails =
        trail_same OC (old_over image base db) (OldHolds image base db b.area) (old_related image base db b.area) (steps_for k) k 0 (old_started p b)
        (old_begin (start_of old_behind p b)) (old_beside image base db b.area p b.state bb bd lp)

    abbrev NH : Bytes → New → Type 0
    NH = NewHolds records places base size db L.records_bytes L.places_bytes c.area

    abbrev N : Core New
    N = new_over records places base size db

    abbrev begun : State New
    begun = new_begin places base size (start_of new_behind q c)

    abbrev started : State Bytes
    started = new_started places base size q c

    related : Related NC N NH
    related = new_related records places base size db L.records_bytes L.places_bytes c.area

    abbrev f : ℕ
    f = 0 + first (in_full image base) L.ps (plain q)

    found : seek (rows_in places) q ≡ some f
    found = finds image base entryList cap places records L q hq

    beside : Beside NH started begun
    beside =
        new_beside records places base size db L.records_bytes L.places_bytes c.area q f c.state cb cd
        (rw found at (found_lt places q L.places_bytes)) found

    new_trails : trail_of NC k started ≡ trail_of N k begun
    new_trails = trail_same NC N NH related (steps_for k) k 0 started begun beside

    strays_same : (h : ℕ) → Strays (Placed image base entryList) (in_image base size) N k begun h
        ↔ Strays (Placed image base entryList) (in_image base size) NC k started h
    strays_same h = (
      strays_on N NC (λ s x. NH x s) (flipped related) (Placed image base entryList) (in_image base size) k begun started h
          (flip_beside NH started begun beside),
      strays_on NC N NH related (Placed image base entryList) (in_image base size) k started begun h beside,
    )

    pub on_bytes : Holds (Placed image base entryList) (in_image base size) k (start_of old_behind p b) (start_of new_behind q c) (old_over image base db)
        (old_begin (start_of old_behind p b)) N begun
        → Holds (Placed image base entryList) (in_image base size) k (start_of old_behind p b) (start_of new_behind q c) OC (old_started p b) NC started
    on_bytes H =
        holds_on (Placed image base entryList) (in_image base size) k (start_of old_behind p b) (start_of new_behind q c)
        (old_over image base db) (old_begin (start_of old_behind p b)) N begun OC (old_started p b) NC started old_trails new_trails
        (complete OC over_old k (bytes (old_begins p b.state) b.area) (subst Unspent (sym old_trails) H.old_complete.unspent))
        (complete_at NC over_new k started (bytes (new_bytes (live (new (machine_in new_behind c.state []) f 0))) c.area)
        (new_live records places base size db L.records_bytes L.places_bytes c.area q f c.state found)
        (subst Unspent (sym new_trails) H.new_complete.unspent))
        strays_same H

    pub old_read : ReadOff old_behind k OC (old_started p b) (old_over image base db) (old_begin (start_of old_behind p b))
    old_read =
        record {
          same_trail = old_trails;
          as_it_stands = as_it_stands OC (old_over image base db) (OldHolds image base db b.area) (old_related image base db b.area)
              (old_holds image base db b.area) (old_started p b) (old_begin (start_of old_behind p b)) (old_beside image base db b.area p b.state bb bd lp);
        }

    pub new_read : ReadOff new_behind k NC started N begun
    new_read =
        record {
          same_trail = new_trails;
          as_it_stands = as_it_stands NC N NH related (new_holds records places base size db L.records_bytes L.places_bytes c.area) started begun beside;
        }

-- number 0 is acceptance, with the two counts beside it
accepted_back : (a : Answer) (P R : ℕ) → answer_numbers a ≡ 0 ∷ P ∷ R ∷ [] → a ≡ accepted P R
unfolding answer_numbers refusal_numbers
accepted_back (Ok c) P R e = let q : P ≡ c.places = cc in let s : R ≡ c.records = cc in rw (q, s)
accepted_back (Err (ImageLength n)) P R e = let z : ◌≡◌ {A = ℕ} 1 0 = cc in absurd (omega arith)
accepted_back (Err (Base a)) P R e = let z : ◌≡◌ {A = ℕ} 2 0 = cc in absurd (omega arith)
accepted_back (Err (Entry k)) P R e = let z : ◌≡◌ {A = ℕ} 3 0 = cc in absurd (omega arith)
accepted_back (Err (Forbidden a)) P R e = let z : ◌≡◌ {A = ℕ} 4 0 = cc in absurd (omega arith)
accepted_back (Err (NoRoom a)) P R e = let z : ◌≡◌ {A = ℕ} 5 0 = cc in absurd (omega arith)
accepted_back (Err (RecordsShort n)) P R e = let z : ◌≡◌ {A = ℕ} 6 0 = cc in absurd (omega arith)

pub interface : Interface
unfolding Interface Demand3
interface image base entryList placesLength recordsLength placeCount recordCount table list ib eb call b c bb bd cb cd p q hp hq db k lk places records et er =
    let handed : Handed = translation image base entryList placesLength recordsLength in
    let numbers : answer_numbers handed.answer ≡ 0 ∷ placeCount ∷ recordCount ∷ [] = sym (ap (λ (x : Back). x.numbers) call) in
    let answered : handed.answer ≡ accepted placeCount recordCount = accepted_back handed.answer placeCount recordCount numbers in
    let et' : places ≡ take (16 * placeCount) handed.places = et ∙ ap (λ (x : Back). take (16 * placeCount) x.places) call in
    let er' : records ≡ take (12 * recordCount) handed.records = er ∙ ap (λ (x : Back). take (12 * recordCount) x.records) call in
    let L = laid image base entryList placesLength recordsLength placeCount recordCount ib eb handed refl answered places records et' er' in
    let lp = placed_lt image base entryList (place_room placesLength) places records L p hp in (
      on_bytes image base entryList (place_room placesLength) places records L db b c bb bd cb cd p q lp hq k
          (demand3 image base entryList placesLength recordsLength placeCount recordCount ib eb handed refl answered (start_of old_behind p b) (start_of new_behind q c) hp hq
          db k lk places records et' er'),
      old_read image base entryList (place_room placesLength) places records L db b c bb bd cb cd p q lp hq k,
      new_read image base entryList (place_room placesLength) places records L db b c bb bd cb cd p q lp hq k,
    )
