-- The lists that are lent: long enough (9), and zero again.
-- Assumes nothing.
use mathlib.Core.Path.{◌≡◌, sym, ap, ◌∙◌}
use mathlib.Core.List.{List}
use Prim.Native.Nat.{ℕ, ◌+◌, ◌<◌, ◌≤◌}
use native.Mathlib.Omega.{arith}
use lib.ListN.{length, take, replicate, length-replicate}
use lib.Seq.{length-take-le}
use Rattle.records.specs.Memory.{pad}
use Rattle.equations.specs.Lists.{Lists, lists, Long, NamesFit, OrderFits, Zeroed, Worked}
use Rattle.equations.specs.Contract.{Imports}
use Rattle.equations.specs.Contract as contract
use Rattle.equations.specs.Knowing.{Ready, Cut}
use Rattle.equations.specs.Judging.{Judged, ends, refused, done, back}
use Rattle.equations.specs.Imported.{Imported}

-- ---- number 9

module _ {size : ℕ} {H X N F M A S I Q R W : List ℕ} where
  pub long_names : Long size (lists H X N F M A S I Q R W) → NamesFit size H X N F M A
  long_names l = record { heads = l.heads; next = l.next; names = l.names; defs = l.defs; marks = l.marks; amounts = l.amounts }

  pub long_order : Long size (lists H X N F M A S I Q R W) → OrderFits size S I Q R W
  long_order l = record { starts = l.starts; rights = l.rights; order = l.order; ring = l.ring; shown = l.shown }

  pub long_both : size < 4_294_967_295 → NamesFit size H X N F M A → OrderFits size S I Q R W → Long size (lists H X N F M A S I Q R W)
  long_both s n o = record {
    small = s;
    heads = n.heads;
    next = n.next;
    names = n.names;
    defs = n.defs;
    marks = n.marks;
    amounts = n.amounts;
    starts = o.starts;
    rights = o.rights;
    order = o.order;
    ring = o.ring;
    shown = o.shown;
  }

-- ---- what the text is judged in

zeroed_long : (l l₁ : List ℕ) → Zeroed l l₁ → length l₁ ≡ length l
zeroed_long l l₁ z = ap length z ∙ length-replicate (length l) 0

module _ {size : ℕ} {H X N F M A S I Q R W : List ℕ} (l : Long size (lists H X N F M A S I Q R W)) {n : ℕ} (e : n ≡ size + 1) where
  pub heads_part : n ≤ length H
  heads_part = omega (arith, l.heads)

  pub next_part : n ≤ length X
  next_part = omega (arith, l.next)

  pub names_part : n ≤ length N
  names_part = omega (arith, l.names)

  pub lent_ready : {R₁ W₁ : List ℕ} → Zeroed R R₁ → Zeroed W W₁ → Ready size (lists (take n H) (take n X) (take n N) F M A S I Q R₁ W₁)
  lent_ready {R₁} {W₁} zr zw =
      let r = zeroed_long R R₁ zr in
      let w = zeroed_long W W₁ zw in record {
        long = record {
          small = l.small;
          heads = omega (arith, length-take-le n H heads_part);
          next = omega (arith, length-take-le n X next_part);
          names = omega (arith, length-take-le n N names_part);
          defs = l.defs;
          marks = l.marks;
          amounts = l.amounts;
          starts = l.starts;
          rights = l.rights;
          order = l.order;
          ring = omega (arith, l.ring);
          shown = omega (arith, l.shown);
        };
        round = omega (arith, length-take-le n H heads_part, l.ring);
        ring = zr ∙ ap (λ k. replicate k 0) (sym r);
        shown = zw ∙ ap (λ k. replicate k 0) (sym w);
      }

  pub lent_cut : Cut size (take n H) (take n X) (take n N)
  lent_cut = record {
    heads = omega (arith, length-take-le n H heads_part);
    next = omega (arith, length-take-le n X next_part);
    names = omega (arith, length-take-le n N names_part);
  }

-- ---- zero again

module _ {H X N F M A S I Q R W H₁ X₁ N₁ F₁ M₁ A₁ S₁ I₁ Q₁ H' X' N' F' M' A' S' I' Q' R' W' : List ℕ} where
  pub worked_from : Worked (lists H₁ X₁ N₁ F₁ M₁ A₁ S₁ I₁ Q₁ R W) (lists H' X' N' F' M' A' S' I' Q' R' W')
      → length H₁ ≡ length H → length X₁ ≡ length X → length N₁ ≡ length N → length F₁ ≡ length F → length M₁ ≡ length M → length A₁ ≡ length A → length S₁ ≡ length S
      → length I₁ ≡ length I → length Q₁ ≡ length Q → Worked (lists H X N F M A S I Q R W) (lists H' X' N' F' M' A' S' I' Q' R' W')
  worked_from w h x n f m a s i q = record {
    heads = w.heads ∙ ap (λ k. replicate k 0) h;
    next = w.next ∙ ap (λ k. replicate k 0) x;
    names = w.names ∙ ap (λ k. replicate k 0) n;
    defs = w.defs ∙ ap (λ k. replicate k 0) f;
    marks = w.marks ∙ ap (λ k. replicate k 0) m;
    amounts = w.amounts ∙ ap (λ k. replicate k 0) a;
    starts = w.starts ∙ ap (λ k. replicate k 0) s;
    rights = w.rights ∙ ap (λ k. replicate k 0) i;
    order = w.order ∙ ap (λ k. replicate k 0) q;
  }

-- ---- the answer

module _ {text : List ℕ} {l l' : Lists} {R₁ W₁ : List ℕ} {a : Imported} (long : Long (length text) l) (zr : Zeroed l.ring R₁) (zw : Zeroed l.shown W₁) (w : Worked l l') where
  pub imported : Judged text R₁ W₁ l'.ring l'.shown a → Imports text l l' a
  imported (ends (refused m line s some other h eW) eR) = contract.refused m line long s some other h w (eR ∙ zr) (eW ∙ zw)
  imported (ends (done root r b h sh) eR) = contract.done root long r b h (sh ∙ ap (λ k. pad k 0 (contract.spots_of text root)) (zeroed_long l.shown W₁ zw)) w (eR ∙ zr)
  imported (back places s h shows eR eW) = contract.back places long s h shows (eR ∙ ap (λ k. pad k 0 places) (zeroed_long l.ring R₁ zr)) w (eW ∙ zw)
