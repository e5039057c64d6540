-- What load's three runs of stores make of a desk: one run from its first word on, and so the head, the table, zeros and the rest.
use Prim.Native.Nat.{ℕ, ◌+◌, ◌-◌, ◌*◌, ◌≤◌}
use mathlib.Core.Path.{◌≡◌, sym, ap, ◌∙◌}
use mathlib.Core.List.{List, ◌++◌, append_assoc}
use native.Mathlib.Omega.{arith}
use native.Mathlib.Nat.{zero-add}
use lib.ListN.{length, drop, replicate, length-append, length-replicate}
use lib.Seq.{sets, sets-eq}
use Rattle.masks.specs.Words.{zeroed}
use Rattle.masks.proofs.Words.{sets-append, zeroed-sets}
use Rattle.rules.specs.Table.{row_words, row_count}
use Rattle.rules.specs.Desk.{most_steps, entry_words, row_place, desk_words, load_step}
use Rattle.desk.specs.Lay.{head_for}

-- three runs, each behind the one before it, from the first word on
pub three-runs : (d h t z : List ℕ) → length h + length t + length z ≤ length d
    → sets (sets (sets d 0 h) (length h) t) (length h + length t) z ≡ h ++ (t ++ (z ++ drop (length h + length t + length z) d))
three-runs d h t z room =
    let n : length (h ++ t) ≡ length h + length t = length-append h t in
    let m : length ((h ++ t) ++ z) ≡ length h + length t + length z = length-append (h ++ t) z ∙ ap (λ (k : ℕ). k + length z) n in
    let one : sets (sets d 0 h) (length h) t ≡ sets d 0 (h ++ t) =
    ap (λ (k : ℕ). sets (sets d 0 h) k t) (sym (zero-add (length h))) ∙ sets-append d 0 h t in
    let two : sets (sets d 0 (h ++ t)) (length h + length t) z ≡ sets d 0 ((h ++ t) ++ z) =
    ap (λ (k : ℕ). sets (sets d 0 (h ++ t)) k z) (sym (zero-add (length (h ++ t)) ∙ n)) ∙ sets-append d 0 (h ++ t) z in
    let whole = sets-eq ((h ++ t) ++ z) d 0 (omega (arith, m)) in
    let past : drop (0 + length ((h ++ t) ++ z)) d ≡ drop (length h + length t + length z) d =
    ap (λ (k : ℕ). drop k d) (zero-add (length ((h ++ t) ++ z)) ∙ m) in
    ap (λ (e : List ℕ). sets e (length h + length t) z) one ∙ two ∙ whole ∙ ap (λ (r : List ℕ). ((h ++ t) ++ z) ++ r) past ∙ simp append_assoc

-- the three runs of load
pub laid-whole : (n c : ℕ) (t d : List ℕ) → length t ≤ row_words * c → desk_words c ≤ length d
    → zeroed (sets (sets d 0 (head_for n (row_count t) c)) 8 t) (8 + length t) (desk_words c - (8 + length t)) ≡ load_step n t c d
unfolding load_step desk_words row_place head_for
laid-whole n c t d room reach =
    let z = replicate {A = ℕ} (desk_words c - (8 + length t)) 0 in
    let k : desk_words c - (8 + length t) ≡ row_words * c - length t + most_steps * entry_words = omega arith in
    let m : length z ≡ desk_words c - (8 + length t) = length-replicate {A = ℕ} (desk_words c - (8 + length t)) 0 in
    let end : 8 + length t + length z ≡ desk_words c = omega (arith, m) in
    zeroed-sets (sets (sets d 0 (head_for n (row_count t) c)) 8 t) (8 + length t) (desk_words c - (8 + length t))
    ∙ three-runs d (head_for n (row_count t) c) t z (omega (arith, m))
    ∙ ap (λ (r : List ℕ). head_for n (row_count t) c ++ (t ++ r))
    (ap (λ (r : List ℕ). z ++ r) (ap (λ (j : ℕ). drop j d) end)
    ∙ ap (λ (j : ℕ). replicate {A = ℕ} j 0 ++ drop (desk_words c) d) k)
