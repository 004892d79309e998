-- Reading values one after the other, as a loop does.
use Rattle.std.proofs.Common.{◌≡◌, ℕ, suc, ◌-◌, ◌+◌, ◌≤◌, ◌<◌, List, [], ◌∷◌, ◌++◌, Some, None, refl, sym, ap, ◌∙◌, append_assoc, arith}
use Rattle.std.proofs.lemmas.List.{append-nil}
use Rattle.decision_journal.specs.declared.reading.ReadFault.{ReadFault}
use Rattle.decision_journal.specs.declared.reading.ReadFault.TheVariants.{Memory, NoRecord}
use Rattle.decision_journal.specs.Reading.{◌>>=◌, Fails, Reading, list_at}

module _ {A : Type 0} (at : List ℕ → Reading A) where
  -- what was read before, and what is still read
  abbrev pub with_front : List A → Reading (List A) → Reading (List A)
  with_front front read = read >>= λ x. Some (front ++ x.0, x.1)

  regroup : (front : List A) (n : A) (read : Reading (List A)) → with_front front (read >>= λ x. Some (n ∷ x.0, x.1)) ≡ with_front (front ++ n ∷ []) read
  regroup front n (Some x) = ap (λ (ns : List A). Some (ns, x.1)) (simp append_assoc)
  regroup front n None = refl

  pub goes_on : (front : List A) (count i : ℕ) (octets : List ℕ) (n : A) (after : List ℕ) (total : Reading (List A)) → i < count → at octets ≡ Some (n, after)
      → with_front front (list_at at (count - i) octets) ≡ total → with_front (front ++ n ∷ []) (list_at at (count - (i + 1)) after) ≡ total
  unfolding list_at
  goes_on front count i octets n after total lt h so_far =
      let k : count - i ≡ suc (count - (i + 1)) = omega arith in
      let one : with_front front (list_at at (count - i) octets) ≡ with_front (front ++ n ∷ []) (list_at at (count - (i + 1)) after) = rw (k, h) (regroup front n (list_at at (count - (i + 1)) after)) in
      sym one ∙ so_far

  pub ends : (e : ReadFault) (front : List A) (count i : ℕ) (octets : List ℕ) (total : Reading (List A)) → i < count → Fails e (at octets)
      → with_front front (list_at at (count - i) octets) ≡ total → Fails e total
  unfolding list_at
  ends Memory front count i octets total lt h so_far = tt
  ends NoRecord front count i octets total lt h so_far =
      let k : count - i ≡ suc (count - (i + 1)) = omega arith in
      let one : with_front front (list_at at (count - i) octets) ≡ None = rw (k, h) refl in
      sym so_far ∙ one

  pub is_done : (front : List A) (count i : ℕ) (octets : List ℕ) (total : Reading (List A)) → count ≤ i → with_front front (list_at at (count - i) octets) ≡ total → total ≡ Some (front, octets)
  unfolding list_at
  is_done front count i octets total le so_far =
      let k : count - i ≡ 0 = omega arith in
      let one : with_front front (list_at at (count - i) octets) ≡ Some (front, octets) = rw k (ap (λ (ns : List A). Some (ns, octets)) (append-nil front)) in
      sym so_far ∙ one
