-- Pieces stored one behind the other are the whole text stored, and no store changes how many bytes there are.
use Prim.Native.Nat.{ℕ}
use mathlib.Core.Path.{◌≡◌, refl, sym, ap, ◌∙◌}
use mathlib.Core.List.{List, [], ◌++◌}
use native.Mathlib.Nat.{add-zero}
use native.Mathlib.Omega.{arith}
use lib.ListN.{length, length-append}
use lib.Seq.{length-sets}
use Rattle.masks.proofs.Words.{sets-append}
use Rattle.pieces_written.specs.Stored.{Stored}

pub stored-none : {out : List ℕ} {at : ℕ} → Stored out at [] at out
stored-none {out} {at} = record { place = sym (add-zero at); bytes = refl }

pub stored-kept : {out : List ℕ} {at : ℕ} {text : List ℕ} {next : ℕ} {after : List ℕ} → Stored out at text next after → length after ≡ length out
stored-kept {out} {at} {text} w = ap length w.bytes ∙ length-sets out at text

pub stored-both : {out : List ℕ} {at : ℕ} {xs : List ℕ} {mid : ℕ} {between ys : List ℕ} {next : ℕ} {after : List ℕ}
    → Stored out at xs mid between → Stored between mid ys next after → Stored out at (xs ++ ys) next after
stored-both {out} {at} {xs} {ys = ys} v w =
    record {
      place = rw (length-append xs ys) (omega (arith, v.place, w.place));
      bytes = w.bytes ∙ rw (v.place, v.bytes) (sets-append out at xs ys);
    }
