-- What is known of the names after the scan, and that it stays so while the work lists change.
-- Assumes nothing.
use mathlib.Core.Path.{◌≡◌, refl, sym, subst}
use mathlib.Core.List.{List}
use Prim.Native.Nat.{ℕ, ◌<◌, ◌≤◌}
use native.Mathlib.Omega.{arith}
use lib.ListN.{length, take}
use lib.Seq.{length-take-le, get_or-take}
use Rattle.paper.specs.Texts.{lines_of}
use Rattle.paper.specs.Equations.{inputs_in}
use Rattle.scanning.specs.Scanning as scanning
use Rattle.scanning.specs.Judged.{Names}
use Rattle.scanning.specs.Filling.{Flat}
use Rattle.scanning.proofs.Known.{count_in}
use Rattle.scanning.proofs.Filling.{flat_inputs, flat_inside, flat_named}
use Rattle.depthfirst.specs.Inputs.{inputs_of, Arrays}
use Rattle.depthfirst.specs.Answers.{AllInOrder}
use Rattle.equations.specs.Lists.{lists}
use Rattle.equations.specs.Knowing.{Ready, Cut, Known, Room}

-- ---- the lists while they change

pub room_kept : {c : ℕ} {N G M K A Q W M' K' A' Q' : List ℕ} → Room c N G M K A Q W → length M' ≡ length M → length K' ≡ length K → length A' ≡ length A → length Q' ≡ length Q
    → Room c N G M' K' A' Q' W
room_kept r m k a q = record {
  names = r.names;
  amounts = r.amounts;
  rooms = record {
    marks = omega (arith, r.rooms.marks);
    stack = omega (arith, r.rooms.stack);
    places = omega (arith, r.rooms.places);
    order = omega (arith, r.rooms.order);
  };
  shown = r.shown;
  blank = r.blank;
}

module _ {size : ℕ} {H X N F M A S I Q R W : List ℕ} (r : Ready size (lists H X N F M A S I Q R W)) where
  pub ready_kept : {H' X' N' F' M' A' : List ℕ} → length H' ≡ length H → length X' ≡ length X → length N' ≡ length N → length F' ≡ length F → length M' ≡ length M → length A' ≡ length A
      → Ready size (lists H' X' N' F' M' A' S I Q R W)
  ready_kept h x n f m a = record {
    long = record {
      small = r.long.small;
      heads = omega (arith, r.long.heads);
      next = omega (arith, r.long.next);
      names = omega (arith, r.long.names);
      defs = omega (arith, r.long.defs);
      marks = omega (arith, r.long.marks);
      amounts = omega (arith, r.long.amounts);
      starts = r.long.starts;
      rights = r.long.rights;
      order = r.long.order;
      ring = r.long.ring;
      shown = r.long.shown;
    };
    round = omega (arith, r.round);
    ring = r.ring;
    shown = r.shown;
  }

  pub ready_room : {c : ℕ} → c ≤ size → Room c N A M H X Q W
  ready_room h = record {
    names = omega (arith, r.long.names);
    amounts = omega (arith, r.long.amounts);
    rooms = record {
      marks = omega (arith, r.long.marks);
      stack = omega (arith, r.long.heads);
      places = omega (arith, r.long.next);
      order = omega (arith, r.long.order);
    };
    shown = omega (arith, r.long.shown);
    blank = r.shown;
  }

  pub ready_fill : {c : ℕ} → c ≤ size → (c < length S) × (size ≤ length I)
  ready_fill h = (omega (arith, r.long.starts), omega (arith, r.long.rights))

  pub ready_scan : (size ≤ length F) × (size ≤ length M) × (size ≤ length A)
  ready_scan = (omega (arith, r.long.defs), omega (arith, r.long.marks), omega (arith, r.long.amounts))

pub scan_lists : {text H X N F M A S I Q R W : List ℕ} → Ready (length text) (lists H X N F M A S I Q R W) → Cut (length text) H X N → scanning.Lists text N H X
scan_lists r k = record {
  long = omega (arith, k.names);
  linked = omega (arith, k.names, k.next);
  chains = omega (arith, k.heads);
  small = omega (arith, k.names, r.long.small);
}

-- ---- after the scan

module _ {text N H X : List ℕ} {c : ℕ} {F G S I : List ℕ} {used : ℕ} (n : Names text N H X c F G) (f : Flat (inputs_in (lines_of text)) c S I used) where
  flat_arrays : Arrays S (take used I) c
  flat_arrays =
      let size : length (take used I) ≡ used = length-take-le used I f.inside in record {
        long = f.long;
        inside = λ x l. omega (arith, flat_inside f x l);
        named = λ p l. let k : p < used = omega arith in subst (λ m. m < c) (sym (get_or-take used I p 0 k)) (flat_named n.gathered n.places f p k);
      }

  pub scanned_known : Known text c N F G S (take used I)
  unfolding inputs_of
  scanned_known = record {
    lines = n.lines;
    count = sym (count_in n.gathered);
    arrays = flat_arrays;
    same = λ x l. flat_inputs f x l;
    places = n.places;
    chances = n.chances;
    spots = n.gathered.spots;
  }

-- ---- after all walks

pub all_count : {S I : List ℕ} {c : ℕ} {Q : List ℕ} {r : ℕ} → AllInOrder S I c Q r → AllInOrder S I c Q c
all_count o = record { count = refl; is = o.is; ordered = o.ordered; every = o.every; ringless = o.ringless }
