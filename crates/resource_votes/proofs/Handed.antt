-- What the calls on linked lists leave.
use Rattle.std.proofs.Common.{◌≡◌, ◌≢◌, ℕ, zero, suc, ◌+◌, ◌<◌, ◌≤◌, List, [], ◌∷◌, ◌++◌, length, map, refl, ap, sym, ◌∙◌, arith, take, drop}
use Rattle.std.specs.Prelude.{slice_set, sum_by, replicate}
use Rattle.std.proofs.lemmas.Grind.{common_steps}
use Rattle.std.proofs.lemmas.List.{get_or-set_other, length-replicate}
use Rattle.resource_votes.specs.Limits.{list_count}
use Rattle.resource_votes.specs.Lists.{list_at, added_to, handed_lists}
use Rattle.resource_votes.specs.LinksInside.{no_ends, ends_at, linked, all_linked, AreLinked, IsBeside, joined_next, joined_at, emptied}
use Rattle.resource_votes.specs.declared.links.Ends.{Ends}
use Rattle.resource_votes.proofs.ChainLemmas.{last_within}
use Rattle.resource_votes.proofs.Joined.{joined, taken_out, beside_others, grown_lists, grown_linked, new_number, changed_lists, still_linked, all_at}

-- what is written over all of a vector is what it has
pub all_written : {A : Type 0} (n : ℕ) (xs ys : List A) → length xs ≡ n → length ys ≡ n → take n (xs ++ drop (length xs) ys) ≡ xs
all_written n xs ys h k = grind (arith, common_steps)

pub last_there : (next : List ℕ) (ends : List Ends) → AreLinked next ends → (b : ℕ) → b < length ends → (ends_at ends b).last ≤ length next
last_there next ends h b k = rw (h.lasts b k) (last_within next _ _ (h.chains b k))

-- the lists after one was handed to another
pub record AreNow (next : List ℕ) (ends : List Ends) (lists : List (List ℕ)) : Type 0 where
  pub are_linked : AreLinked next ends
  pub lists_are : all_linked next ends ≡ lists

pub added : (next : List ℕ) (ends : List Ends) (lists : List (List ℕ)) (b : ℕ) (e : Ends) (ys : List ℕ) → AreNow next ends lists → b < length ends → IsBeside next ends e ys → AreNow (joined_next next (ends_at ends b) e) (joined_at ends b e) (slice_set lists b (list_at lists b ++ ys))
added next ends lists b e ys h within beside =
    let one = joined next ends b e ys h.are_linked within beside in
    let had : linked next (ends_at ends b) ≡ list_at lists b = sym (all_at next ends b within) ∙ ap (λ (ls : List (List ℕ)). list_at ls b) h.lists_are in
    record {
      are_linked = still_linked next _ ends b _ _ h.are_linked within one;
      lists_are = changed_lists next _ ends b _ _ h.are_linked within one
          ∙ ap (λ (ls : List (List ℕ)). slice_set ls b (linked next (ends_at ends b) ++ ys)) h.lists_are
          ∙ ap (λ (xs : List ℕ). slice_set lists b (xs ++ ys)) had;
    }

pub handed : (next : List ℕ) (ends : List Ends) (from to : ℕ) → AreLinked next ends → from < length ends → to < length ends → from ≢ to → AreNow (joined_next next (ends_at (emptied ends from) to) (ends_at ends from)) (joined_at (emptied ends from) to (ends_at ends from)) (handed_lists (all_linked next ends) from to)
handed next ends from to h within also differ =
    let as_many : length (emptied ends from) ≡ length ends = grind (arith, common_steps) in
    let out = taken_out next ends from h within in
    let now : AreNow next (emptied ends from) (slice_set (all_linked next ends) from []) = record {
      are_linked = still_linked next next ends from no_ends [] h within out;
      lists_are = changed_lists next next ends from no_ends [] h within out;
    } in
    let kept : list_at (slice_set (all_linked next ends) from []) to ≡ list_at (all_linked next ends) to =
    get_or-set_other (all_linked next ends) from to [] [] (λ e. differ (sym e)) in
    let had : linked next (ends_at ends from) ≡ list_at (all_linked next ends) from = sym (all_at next ends from within) in
    rw (← kept, ← had)
    (added next (emptied ends from) (slice_set (all_linked next ends) from []) to (ends_at ends from) (linked next (ends_at ends from)) now (rw as_many also) (beside_others next ends from h within))

pub emptied_linked : (next : List ℕ) (ends : List Ends) (from : ℕ) → AreLinked next ends → from < length ends → AreLinked next (emptied ends from)
emptied_linked next ends from h within = still_linked next next ends from no_ends [] h within (taken_out next ends from h within)

pub pushed : (next : List ℕ) (ends : List Ends) (b n : ℕ) → AreLinked next ends → b < length ends → n ≡ length next + 1 → AreNow (joined_next (next ++ 0 ∷ []) (ends_at ends b) (record { first = n; last = n })) (joined_at ends b (record { first = n; last = n })) (added_to (all_linked next ends) b n)
pushed next ends b n h within is =
    let now : AreNow (next ++ 0 ∷ []) ends (all_linked next ends) = record { are_linked = grown_linked next ends h; lists_are = grown_lists next ends h } in
    added (next ++ 0 ∷ []) ends (all_linked next ends) b _ (n ∷ []) now within (new_number next ends h n is)

-- no numbers at all
no_links : linked [] no_ends ≡ []
unfolding linked
no_links = refl

all_empty : (n : ℕ) → all_linked [] (replicate n no_ends) ≡ replicate n []
all_empty zero = refl
all_empty (suc n) = ap (λ (xs : List ℕ). xs ∷ map (linked []) (replicate n no_ends)) no_links ∙ ap (λ (ls : List (List ℕ)). [] ∷ ls) (all_empty n)

no_sum : (n : ℕ) → sum_by (λ (xs : List ℕ). length xs) (replicate {A = List ℕ} n []) ≡ 0
no_sum zero = refl
no_sum (suc n) = no_sum n

none_there : (n b : ℕ) → ends_at (replicate n no_ends) b ≡ no_ends
none_there zero b = refl
none_there (suc n) zero = refl
none_there (suc n) (suc b) = none_there n b

pub begun : (n : ℕ) → AreNow [] (replicate n no_ends) (replicate n [])
begun n = record {
  are_linked = record {
    chains = λ b _. rw (none_there n b, no_links) refl;
    lasts = λ b _. rw (none_there n b, no_links) refl;
    apart = λ a b _ _ _ _. rw (none_there n a) refl;
    few = rw (all_empty n, no_sum n) (omega arith);
  };
  lists_are = all_empty n;
}

pub kept_count : (ends : List Ends) (b : ℕ) (e : Ends) → length (slice_set ends b e) ≡ length ends
kept_count ends b e = grind (arith, common_steps)

-- the same of vectors, of which the whole is written
pub record IsWritten (next : List ℕ) (ends : List Ends) (lists : List (List ℕ)) : Type 0 where
  pub size : length ends ≡ list_count
  pub now : AreNow next ends lists

pub written : (m n : ℕ) (next old : List ℕ) (ends before : List Ends) (lists : List (List ℕ)) → length next ≡ m → length old ≡ m → length ends ≡ n → length before ≡ n → n ≡ list_count → AreNow next ends lists → IsWritten (take m (next ++ drop (length next) old)) (take n (ends ++ drop (length ends) before)) lists
written m n next old ends before lists h k i j size now =
    rw (all_written m next old h k, all_written n ends before i j) record { size = i ∙ size; now = now }

pub begun_of : (n : ℕ) (next : List ℕ) (ends : List Ends) → next ≡ [] → ends ≡ replicate n no_ends → n ≡ list_count → IsWritten next ends (replicate n [])
begun_of n next ends h k size = rw (h, k) record { size = length-replicate n no_ends ∙ size; now = begun n }
