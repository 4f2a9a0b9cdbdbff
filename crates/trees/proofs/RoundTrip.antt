-- Writing an accepted tree gives the bytes that were read; and the bytes that a write gives are read as the tree that they tell.
-- Assumes nothing.
use mathlib.Core.Path.{◌≡◌, refl, sym, ap, ◌∙◌}
use mathlib.Core.Bool.{Bool}
use mathlib.Core.List.{List, [], ◌∷◌, ◌++◌, append_assoc, append-nil}
use Prim.Native.Nat.{ℕ, zero, suc, ◌+◌, ◌-◌, ◌≤◌, ◌<◌}
use native.Mathlib.Omega.{arith}
use lib.ListN.{length, get_or, drop, length-append, drop_of_length-le}
use lib.Seq.{drop-drop, get_or-drop, get_or-append_seam}
use borrow.Author.Tests.{lt-ltb}
use Rattle.std.specs.Prelude.{Option, None, Result, Ok, Err}
use Rattle.paper.specs.Limits.{limits}
use Rattle.paper.specs.Lists.{sum}
use Rattle.rules.specs.Format.{event_in, record_of, width_of, encode}
use Rattle.records.specs.Judge.{Book, start, counts, ◌▷◌, add_event, add_gate, add_input, next_step, accept, refuse, run, outcome}
use Rattle.records.specs.Memory.{pad, no_event, memory}
use Rattle.judging.specs.Bytes.{input_record, bytes_of}
use Rattle.records.specs.Trees.{Lawful}
use Rattle.writing.specs.Sites.{lost_site}
use Rattle.writing.specs.Writes.{write_of, wrote}
use Rattle.records.specs.declared.Event.{Event as EventOf}
use Rattle.rules.specs.declared.Refusal.{Refusal}
use Rattle.records.specs.declared.Tree.{Tree}
use Rattle.rules.specs.declared.format.Record.{Record}
use Rattle.rules.specs.declared.format.Record.TheVariants.{Gate, End}
use Rattle.rules.specs.declared.judge.Step.{Step}
use Rattle.rules.specs.declared.judge.Step.TheVariants.{AddEvent, AddGate, AddInput, Close}
use Rattle.records.proofs.Pad.{length_▷, pad_get_d}
use Rattle.rules.proofs.Cases.{if_elim}
use Rattle.rules.proofs.Steps.{Sound}
use Rattle.records.proofs.Keeping.{Kept, kept_start, kept_event, kept_gate, kept_input}
use Rattle.records.proofs.Runs.{run_event, run_gate, run_input, run_close, run_refused, sound_next, next_fed, close_is}
use Rattle.records.proofs.Sums.{some_sizes}
use Rattle.judging.proofs.Rest.{event_record, gate_record_at, input_record_at, rest_at, rest_event, rest_input, rest_gate, rest_end}
use Rattle.judging.proofs.Following.{follow_start}
use Rattle.writing.proofs.Seeking.{none_sited}
use Rattle.writing.proofs.Writing.{writes_done}
use Rattle.trees.proofs.Lawful.{lawful}
use Rattle.trees.proofs.Recoding.{Recoded, recode, event_starts, input_again}

-- l' is l with more behind it
abbrev More : {A : Type 0} → List A → List A → Type 0
More {A} l l' = (xs : List A) × (l' ≡ l ++ xs)

more_▷ : {A : Type 0} (l : List A) (a : A) {l' : List A} → More (◌▷◌ l a) l' → More l l'
more_▷ l a (xs, e) = (a ∷ xs, e ∙ append_assoc l (a ∷ []) xs)

more_long : {A : Type 0} (l : List A) (a : A) {l' : List A} → More (◌▷◌ l a) l' → length l < length l'
more_long l a (xs, e) = rw e (omega (arith, length-append (◌▷◌ l a) xs, length_▷ l a))

more_at : {A : Type 0} (l : List A) (a d : A) {l' : List A} → More (◌▷◌ l a) l' → get_or l' (length l) d ≡ a
more_at l a d (xs, e) = rw (e, append_assoc l (a ∷ []) xs) (get_or-append_seam l a xs d)

-- b' is a later book than b
record Later (b b' : Book) : Type 0 where
  events : More b.events b'.events
  kinds : More b.kinds b'.kinds
  leasts : More b.leasts b'.leasts
  sizes : More b.sizes b'.sizes
  inputs : More b.inputs b'.inputs
  -- all events are of one form
  sited : 0 < length b.events → b'.sited ≡ b.sited

pub no_sizes : (ns : List ℕ) → length ns ≡ 0 → sum ns ≡ 0
no_sizes [] h = refl
no_sizes (n ∷ ns) h = absurd (omega arith)

module _ (bytes : List ℕ) (good : (i : ℕ) → get_or bytes i 0 < 256) (b' : Book) where
  -- from b on, the bytes are what the tree of b' writes from there
  abbrev Back : Book → Type 0
  Back b = Later b b' × (drop b.at bytes ≡ rest_at (memory b') (length b.events) (length b.sizes) (length b.inputs) b.left) × (0 < length b.sizes → length b'.events ≡ length b.events)

  good_from : (at i : ℕ) → get_or (drop at bytes) i 0 < 256
  good_from at i = rw get_or-drop (good (at + i))

  recoded : (at : ℕ) (r : Record) → record_of limits (drop at bytes) ≡ r → Recoded (drop at bytes) r
  recoded at r e = rw e at (recode (drop at bytes) (good_from at))

  event_there : (l : List EventOf) (c site : ℕ) (sited : Bool) → More (◌▷◌ l (record { chance = c; site = site })) b'.events → b'.sited ≡ sited → length l < limits.events
      → event_record (memory b') (length l) ≡ event_in sited c site
  unfolding memory
  event_there l c site sited m q h =
      rw (lt-ltb (length l) limits.events h, q)
      (ap (λ (e : EventOf). event_in sited e.chance e.site) (pad_get_d limits.events no_event b'.events (length l) no_event (more_long l _ m) ∙ more_at l _ _ m))

  back_event : (b : Book) (c site : ℕ) (sited : Bool) (next : ℕ) → Kept b → Sound (length bytes) (counts b) (record_of limits (drop b.at bytes)) (Ok (AddEvent c site sited next))
      → Back (add_event b c site sited next) → Back b
  unfolding memory
  back_event b c site sited next f on (later, rest, still) =
      let r : Record = event_in sited c site in
      let form : b'.sited ≡ sited = later.sited (omega (arith, length_▷ b.events (record { chance = c; site = site }))) in
      let there : event_record (memory b') (length b.events) ≡ r = event_there b.events c site sited later.events form on.few in
      let h : length b.events < length b'.events = more_long b.events _ later.events in
      let z : length b.inputs + b.left ≡ 0 = sym f.wanted ∙ no_sizes b.sizes on.first in
      let at : next ≡ b.at + width_of r = on.place ∙ ap (λ (x : Record). b.at + width_of x) on.shape in
      let t : Tree = memory b' in
      let ahead : List ℕ = rest_at t (length b.events + 1) (length b.sizes) (length b.inputs) b.left in
      let tail : drop (width_of r) (drop b.at bytes) ≡ ahead = drop-drop (width_of r) b.at bytes ∙ ap (λ (k : ℕ). drop k bytes) (sym at) ∙ (rw length_▷ at rest) in
      let first_of : rest_at t (length b.events) (length b.sizes) (length b.inputs) b.left ≡ encode r ++ ahead =
      rest_event t _ _ _ _ h on.first (omega arith) (omega arith) ∙ ap (λ (x : Record). encode x ++ ahead) there in (
        record {
          events = more_▷ b.events _ later.events;
          kinds = later.kinds;
          leasts = later.leasts;
          sizes = later.sizes;
          inputs = later.inputs;
          sited = λ some. form ∙ sym (on.same some);
        },
        event_starts (drop b.at bytes) sited c site (recoded b.at r on.shape) ∙ ap (λ (xs : List ℕ). encode r ++ xs) tail ∙ sym first_of,
        λ some. absurd (omega (arith, on.first)),
      )

  number_there : (top : ℕ) (l l' : List ℕ) (x g : ℕ) → length l ≡ g → More (◌▷◌ l x) l' → get_or (pad top 0 l') g 0 ≡ x
  number_there top l l' x g e m = rw (← e) (pad_get_d top 0 l' (length l) 0 (more_long l x m) ∙ more_at l x 0 m)

  back_gate : (b : Book) (kind k n next : ℕ) → Kept b → Sound (length bytes) (counts b) (record_of limits (drop b.at bytes)) (Ok (AddGate kind k n next))
      → Back (add_gate b kind k n next) → Back b
  unfolding memory
  back_gate b kind k n next f on (later, rest, still) =
      let t : Tree = memory b' in
      let g : ℕ = length b.sizes in
      let (starts, normal) = recoded b.at (Gate kind k n) on.shape in
      let kd : get_or t.kinds g 0 ≡ kind = number_there limits.gates b.kinds _ kind g f.same_kinds later.kinds in
      let kl : get_or t.leasts g 0 ≡ k = number_there limits.gates b.leasts _ k g f.same_leasts later.leasts in
      let ks : get_or t.sizes g 0 ≡ n = number_there limits.gates b.sizes _ n g refl later.sizes in
      let there : gate_record_at t g ≡ Gate kind k n = rw (lt-ltb g limits.gates on.few, kd, kl, ks) normal in
      let all : length b'.events ≡ length b.events = still (omega (arith, length_▷ b.sizes n)) in
      let at : next ≡ b.at + width_of (Gate kind k n) = on.place ∙ ap (λ (r : Record). b.at + width_of r) on.shape in
      let ahead : List ℕ = rest_at t (length b.events) (g + 1) (length b.inputs) n in
      let tail : drop (width_of (Gate kind k n)) (drop b.at bytes) ≡ ahead =
      drop-drop (width_of (Gate kind k n)) b.at bytes ∙ ap (λ (k : ℕ). drop k bytes) (sym at) ∙ (rw length_▷ at rest) in
      let first_of : rest_at t (length b.events) g (length b.inputs) b.left ≡ encode (Gate kind k n) ++ ahead =
      rest_gate t _ _ _ _ (omega arith) on.none (more_long b.sizes n later.sizes)
      ∙ ap (λ (x : ℕ). encode (gate_record_at t g) ++ rest_at t (length b.events) (g + 1) (length b.inputs) x) ks
      ∙ ap (λ (r : Record). encode r ++ ahead) there in (
        record { events = later.events; kinds = more_▷ b.kinds _ later.kinds; leasts = more_▷ b.leasts _ later.leasts; sizes = more_▷ b.sizes _ later.sizes; inputs = later.inputs; sited = later.sited },
        starts ∙ ap (λ (xs : List ℕ). encode (Gate kind k n) ++ xs) tail ∙ sym first_of,
        λ some. all,
      )

  back_input : (b : Book) (i next : ℕ) → Kept b → Sound (length bytes) (counts b) (record_of limits (drop b.at bytes)) (Ok (AddInput i next))
      → Back (add_input b i next) → Back b
  unfolding memory
  back_input b i next f on (later, rest, still) =
      let t : Tree = memory b' in
      let r : Record = record_of limits (drop b.at bytes) in
      let (again, starts) = input_again (drop b.at bytes) (length b.events) f.few_events r on.input (recoded b.at r refl) in
      let ki : get_or t.inputs (length b.inputs) 0 ≡ i = number_there limits.in_all b.inputs _ i _ refl later.inputs in
      let there : input_record_at t (length b.inputs) ≡ r = ap input_record (ki ∙ sym on.code) ∙ again in
      let gates : 0 < length b.sizes = some_sizes b.sizes (omega (arith, f.wanted, on.some)) in
      let all : length b'.events ≡ length b.events = still gates in
      let ahead : List ℕ = rest_at t (length b.events) (length b.sizes) (length b.inputs + 1) (b.left - 1) in
      let tail : drop (width_of r) (drop b.at bytes) ≡ ahead =
      drop-drop (width_of r) b.at bytes ∙ ap (λ (k : ℕ). drop k bytes) (sym on.place) ∙ (rw length_▷ at rest) in
      let first_of : rest_at t (length b.events) (length b.sizes) (length b.inputs) b.left ≡ encode r ++ ahead =
      rest_input t _ _ _ _ (omega arith) on.some ∙ ap (λ (x : Record). encode x ++ ahead) there in (
        record { events = later.events; kinds = later.kinds; leasts = later.leasts; sizes = later.sizes; inputs = more_▷ b.inputs _ later.inputs; sited = later.sited },
        starts ∙ ap (λ (xs : List ℕ). encode r ++ xs) tail ∙ sym first_of,
        λ _. all,
      )

  back_end : (b : Book) → b ≡ b' → Sound (length bytes) (counts b) (record_of limits (drop b.at bytes)) (Ok Close) → Back b
  unfolding memory
  back_end b e on =
      let none_left : drop 1 (drop b.at bytes) ≡ [] = drop-drop 1 b.at bytes ∙ drop_of_length-le bytes {i = b.at + 1} on.short in
      let se : length b'.events ≡ length b.events = ap (λ (x : Book). length x.events) (sym e) in
      let ss : length b'.sizes ≡ length b.sizes = ap (λ (x : Book). length x.sizes) (sym e) in (
        record {
          events = ([], ap (λ (x : Book). x.events) (sym e) ∙ sym (append-nil b.events));
          kinds = ([], ap (λ (x : Book). x.kinds) (sym e) ∙ sym (append-nil b.kinds));
          leasts = ([], ap (λ (x : Book). x.leasts) (sym e) ∙ sym (append-nil b.leasts));
          sizes = ([], ap (λ (x : Book). x.sizes) (sym e) ∙ sym (append-nil b.sizes));
          inputs = ([], ap (λ (x : Book). x.inputs) (sym e) ∙ sym (append-nil b.inputs));
          sited = λ _. ap (λ (x : Book). x.sited) (sym e);
        },
        recoded b.at End on.shape ∙ ap (λ (xs : List ℕ). encode End ++ xs) none_left ∙ sym (rest_end (memory b') _ _ _ _ (omega arith) on.none (omega arith)),
        λ _. se,
      )

  -- one step, with the run behind it
  back_step : (turns : ℕ) (b : Book) → Kept b → b.at ≤ length bytes
      → ((x : Book) → Kept x → x.at ≤ length bytes → run limits turns bytes x ≡ accept b' → Back x)
      → run limits (suc turns) bytes b ≡ accept b' → (x : Result Step Refusal) → next_step limits bytes b ≡ x
      → Sound (length bytes) (counts b) (record_of limits (drop b.at bytes)) x → Back b
  back_step turns b f h on e (Ok (AddEvent c site sited next)) q s =
      back_event b c site sited next f s (on (add_event b c site sited next) (kept_event f s) s.inside (sym (run_event turns bytes b c site sited next q) ∙ e))
  back_step turns b f h on e (Ok (AddGate kind k n next)) q s =
      back_gate b kind k n next f s (on (add_gate b kind k n next) (kept_gate f (drop b.at bytes) refl s) s.inside (sym (run_gate turns bytes b kind k n next q) ∙ e))
  back_step turns b f h on e (Ok (AddInput i next)) q s =
      back_input b i next f s (on (add_input b i next) (kept_input f s (next_fed bytes b q)) s.inside (sym (run_input turns bytes b i next q) ∙ e))
  back_step turns b f h on e (Ok Close) q s = back_end b (close_is b b' (sym (run_close turns bytes b q) ∙ e)) s
  back_step turns b f h on e (Err a) q s =
      let d : refuse a ≡ accept b' = sym (run_refused turns bytes b a q) ∙ e in let z : ◌≡◌ {A = ℕ} 0 1 = cc in absurd (omega arith)

  back : (turns : ℕ) (b : Book) → Kept b → b.at ≤ length bytes → run limits turns bytes b ≡ accept b' → Back b
  unfolding run
  back zero b f h e = let z : ◌≡◌ {A = ℕ} 0 1 = cc in absurd (omega arith)
  back (suc turns) b f h e = back_step turns b f h (back turns) e (next_step limits bytes b) refl (sound_next bytes b h)

  pub round_trip : outcome limits bytes ≡ accept b' → bytes_of (memory b') ≡ bytes
  unfolding outcome
  round_trip e =
      let done : Back start = back (length bytes + 1) start kept_start (omega arith) e in
      (follow_start (memory b')).rest ∙ sym done.1

-- no site of a lawful tree is lost where it is written
pub keeps_sites : (b : Book) → Lawful limits b → lost_site (memory b) ≡ None
unfolding memory
keeps_sites b l =
    if_elim (λ (f : Option ℕ). f ≡ None) b.sited (λ _. refl)
    (λ plain. none_sited (length b.events) 0 (pad limits.events no_event b.events)
    (λ e low high. ap (λ (x : EventOf). x.site) (pad_get_d limits.events no_event b.events e no_event (omega arith)) ∙ l.sites plain e (omega arith)))

-- written to a room that is long enough, an accepted tree gives the bytes that were read, and the room behind them stays
pub write_gives_back : (bytes room : List ℕ) → ((i : ℕ) → get_or bytes i 0 < 256) → (b : Book) → outcome limits bytes ≡ accept b → length bytes ≤ length room
    → write_of limits (memory b) room ≡ wrote (Ok (length bytes)) (bytes ++ drop (length bytes) room)
write_gives_back bytes room good b e h =
    let same : bytes_of (memory b) ≡ bytes = round_trip bytes good b e in
    sym (writes_done (memory b) room (b, ap (outcome limits) same ∙ e) (keeps_sites b (lawful bytes b e)) (rw same h) (sym (ap length same)) (rw same))
