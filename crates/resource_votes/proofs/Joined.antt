-- What becomes of all lists where one is joined to another.
use Rattle.std.proofs.Common.{◌≡◌, ◌≢◌, inl, inr, ℕ, ◌+◌, ◌-◌, ◌<◌, ◌≤◌, ◌==◌, false, List, [], ◌∷◌, ◌++◌, length, refl, ap, sym, ◌∙◌, arith, length-append}
use Rattle.std.specs.Prelude.{slice_index, slice_set, sum_by}
use Rattle.std.proofs.lemmas.Grind.{common_steps}
use Rattle.std.proofs.lemmas.List.{get_or-set_same, get_or-set_other, get_or-map, ext_get_or}
use Rattle.std.proofs.lemmas.List.Sums.{sum_by-set, get_or-le-sum_by}
use Rattle.resource_votes.specs.Lists.{list_at}
use Rattle.resource_votes.specs.ChainsInside.{IsChain, last_of}
use Rattle.resource_votes.specs.LinksInside.{no_ends, ends_at, linked, all_linked, AreLinked, IsBeside, joined_next, joined_ends}
use Rattle.resource_votes.specs.declared.links.Ends.{Ends}
use Rattle.resource_votes.proofs.ChainLemmas.{same_or_not, walk_is, chain_none, last_zero, last_within, last_stops, chain_kept, chain_joined, chain_grows, last_joined, last_positive}

abbrev pub size : List ℕ → ℕ
size xs = length xs

-- a chain that is short enough is what its ends link
pub linked_is : (next : List ℕ) (e : Ends) (xs : List ℕ) → IsChain next e.first xs → length xs ≤ length next → linked next e ≡ xs
unfolding linked
linked_is next e xs h k = walk_is next xs e.first (length next) h k

pub all_at : (next : List ℕ) (ends : List Ends) (b : ℕ) → b < length ends → list_at (all_linked next ends) b ≡ linked next (ends_at ends b)
all_at next ends b h = get_or-map (linked next) ends b no_ends [] h

all_length : (next : List ℕ) (ends : List Ends) → length (all_linked next ends) ≡ length ends
all_length next ends = grind (arith, common_steps)

-- no list is longer than all together
one_of_all : (lists : List (List ℕ)) (b : ℕ) → b < length lists → length (list_at lists b) ≤ sum_by size lists
one_of_all lists b h = get_or-le-sum_by size lists b [] h

pub short_enough : (next : List ℕ) (ends : List Ends) → AreLinked next ends → (b : ℕ) → b < length ends → length (linked next (ends_at ends b)) ≤ length next
short_enough next ends h b k =
    let one : length (list_at (all_linked next ends) b) ≤ sum_by size (all_linked next ends) =
    one_of_all (all_linked next ends) b (rw (all_length next ends) k) in
    let same : length (list_at (all_linked next ends) b) ≤ sum_by size (all_linked next ends) → length (linked next (ends_at ends b)) ≤ sum_by size (all_linked next ends) =
    λ x. rw (all_at next ends b k) at x in
    let short : length (linked next (ends_at ends b)) ≤ sum_by size (all_linked next ends) = same one in
    omega (arith, h.few, short)

-- what one list becomes, where the others stay
pub record IsOneChanged (next more : List ℕ) (ends : List Ends) (b : ℕ) (e : Ends) (zs : List ℕ) : Type 0 where
  pub kept_length : length more ≡ length next
  pub others : (q : ℕ) → q < length ends → q ≢ b → IsChain more (ends_at ends q).first (linked next (ends_at ends q))
  pub chain : IsChain more e.first zs
  pub last : e.last ≡ last_of zs
  pub apart : (q : ℕ) → q < length ends → q ≢ b → (ends_at ends q).last ≡ e.last → e.last ≡ 0
  pub few : sum_by size (slice_set (all_linked next ends) b zs) ≤ length next

-- a place of the changed lists: the chain that stands there, and its last number
record IsPlace (next more : List ℕ) (ends : List Ends) (b : ℕ) (e : Ends) (zs : List ℕ) (q : ℕ) : Type 0 where
  chain : IsChain more (ends_at (slice_set ends b e) q).first (list_at (slice_set (all_linked next ends) b zs) q)
  last : (ends_at (slice_set ends b e) q).last ≡ last_of (list_at (slice_set (all_linked next ends) b zs) q)

place : (next more : List ℕ) (ends : List Ends) (b : ℕ) (e : Ends) (zs : List ℕ) → AreLinked next ends → b < length ends → IsOneChanged next more ends b e zs → (q : ℕ) → q < length ends → IsPlace next more ends b e zs q
place next more ends b e zs h within o q k =
    elim (same_or_not q b) [
      | inl s ↦
          let here : ends_at (slice_set ends b e) q ≡ e = rw s (get_or-set_same ends b e no_ends within) in
          let list : list_at (slice_set (all_linked next ends) b zs) q ≡ zs = rw s (get_or-set_same (all_linked next ends) b zs [] (rw (all_length next ends) within)) in
          record { chain = rw (here, list) o.chain; last = rw (here, list) o.last }
      | inr s ↦
          let here : ends_at (slice_set ends b e) q ≡ ends_at ends q = get_or-set_other ends b q e no_ends s in
          let list : list_at (slice_set (all_linked next ends) b zs) q ≡ linked next (ends_at ends q) =
          get_or-set_other (all_linked next ends) b q zs [] s ∙ all_at next ends q k in
          record { chain = rw (here, list) (o.others q k s); last = rw (here, list) (h.lasts q k) }
    ]

-- the lists with that one changed
pub changed_lists : (next more : List ℕ) (ends : List Ends) (b : ℕ) (e : Ends) (zs : List ℕ) → AreLinked next ends → b < length ends → IsOneChanged next more ends b e zs → all_linked more (slice_set ends b e) ≡ slice_set (all_linked next ends) b zs
changed_lists next more ends b e zs h within o =
    let as_many : length (slice_set ends b e) ≡ length ends = grind (arith, common_steps) in
    let lists_many : length (slice_set (all_linked next ends) b zs) ≡ length ends = grind (arith, common_steps) in
    ext_get_or [] (all_linked more (slice_set ends b e)) (slice_set (all_linked next ends) b zs)
    (all_length more (slice_set ends b e) ∙ as_many ∙ sym lists_many)
    (λ q (k : q < length (all_linked more (slice_set ends b e))).
    let there : q < length (slice_set ends b e) = rw (all_length more (slice_set ends b e)) at k in
    let within_all : q < length ends = rw as_many at there in
    let p : IsPlace next more ends b e zs q = place next more ends b e zs h within o q within_all in
    let one : length (list_at (slice_set (all_linked next ends) b zs) q) ≤ sum_by size (slice_set (all_linked next ends) b zs) =
    one_of_all (slice_set (all_linked next ends) b zs) q (rw lists_many within_all) in
    all_at more (slice_set ends b e) q there
    ∙ linked_is more (ends_at (slice_set ends b e) q) (list_at (slice_set (all_linked next ends) b zs) q) p.chain (omega (arith, one, o.few, o.kept_length)))

pub still_linked : (next more : List ℕ) (ends : List Ends) (b : ℕ) (e : Ends) (zs : List ℕ) → AreLinked next ends → b < length ends → IsOneChanged next more ends b e zs → AreLinked more (slice_set ends b e)
still_linked next more ends b e zs h within o =
    let as_many : length (slice_set ends b e) ≡ length ends = grind (arith, common_steps) in
    let lists : all_linked more (slice_set ends b e) ≡ slice_set (all_linked next ends) b zs = changed_lists next more ends b e zs h within o in
    record {
      chains = λ q (k : q < length (slice_set ends b e)).
          rw (← all_at more (slice_set ends b e) q k) (rw lists (place next more ends b e zs h within o q (rw as_many at k)).chain);
      lasts = λ q (k : q < length (slice_set ends b e)).
          rw (← all_at more (slice_set ends b e) q k) (rw lists (place next more ends b e zs h within o q (rw as_many at k)).last);
      apart = λ p q (j : p < length (slice_set ends b e)) (k : q < length (slice_set ends b e)) differ same.
          still_apart next more ends b e zs h within o p q (rw as_many at j) (rw as_many at k) differ same;
      few = rw lists (omega (arith, o.few, o.kept_length));
    }
  where
    still_apart : (next more : List ℕ) (ends : List Ends) (b : ℕ) (e : Ends) (zs : List ℕ) → AreLinked next ends → b < length ends → IsOneChanged next more ends b e zs → (p q : ℕ) → p < length ends → q < length ends → p ≢ q → (ends_at (slice_set ends b e) p).last ≡ (ends_at (slice_set ends b e) q).last → (ends_at (slice_set ends b e) p).last ≡ 0
    still_apart next more ends b e zs h within o p q j k differ same =
        elim (same_or_not p b) [
          | inl s ↦
              let other : q ≢ b = λ t. differ (s ∙ sym t) in
              let here : ends_at (slice_set ends b e) p ≡ e = rw s (get_or-set_same ends b e no_ends within) in
              let there : ends_at (slice_set ends b e) q ≡ ends_at ends q = get_or-set_other ends b q e no_ends other in
              rw here (o.apart q k other (sym (rw (here, there) at same)))
          | inr s ↦
              let here : ends_at (slice_set ends b e) p ≡ ends_at ends p = get_or-set_other ends b p e no_ends s in
              elim (same_or_not q b) [
                | inl t ↦
                    let there : ends_at (slice_set ends b e) q ≡ e = rw t (get_or-set_same ends b e no_ends within) in
                    rw here ((rw (here, there) at same) ∙ o.apart p j s (rw (here, there) at same))
                | inr t ↦
                    let there : ends_at (slice_set ends b e) q ≡ ends_at ends q = get_or-set_other ends b q e no_ends t in
                    rw here (h.apart p q j k differ (rw (here, there) at same))
              ]
        ]

-- a list that grows by another one
grown_sum : (lists : List (List ℕ)) (b : ℕ) (xs zs : List ℕ) → b < length lists → list_at lists b ≡ xs → sum_by size (slice_set lists b zs) + length xs ≡ sum_by size lists + length zs
grown_sum lists b xs zs h e = rw e at (sum_by-set size lists b zs [] h)

not_zero : (n : ℕ) → n ≢ 0 → (n == 0) ≡ false
not_zero n h = grind arith

next_of_none : (next : List ℕ) (front back : Ends) → front.last ≡ 0 → joined_next next front back ≡ next
next_of_none next front back h = rw h refl

next_of_no_more : (next : List ℕ) (front back : Ends) → front.last ≢ 0 → back.first ≡ 0 → joined_next next front back ≡ next
next_of_no_more next front back h k = rw (not_zero front.last h, k) refl

next_of_both : (next : List ℕ) (front back : Ends) → front.last ≢ 0 → back.first ≢ 0 → joined_next next front back ≡ slice_set next (front.last - 1) back.first
next_of_both next front back h k = rw (not_zero front.last h, not_zero back.first k) refl

ends_of_none : (front back : Ends) → front.last ≡ 0 → joined_ends front back ≡ back
ends_of_none front back h = rw h refl

ends_of_no_more : (front back : Ends) → front.last ≢ 0 → back.first ≡ 0 → joined_ends front back ≡ front
ends_of_no_more front back h k = rw (not_zero front.last h, k) refl

ends_of_both : (front back : Ends) → front.last ≢ 0 → back.first ≢ 0 → joined_ends front back ≡ record { first = front.first; last = back.last }
ends_of_both front back h k = rw (not_zero front.last h, not_zero back.first k) refl

append_none : (xs : List ℕ) → xs ++ [] ≡ xs
append_none xs = grind (arith, common_steps)

joined_few : (next : List ℕ) (ends : List Ends) (b : ℕ) (e : Ends) (ys : List ℕ) → b < length ends → IsBeside next ends e ys → sum_by size (slice_set (all_linked next ends) b (linked next (ends_at ends b) ++ ys)) ≤ length next
joined_few next ends b e ys within beside =
    let grown : sum_by size (slice_set (all_linked next ends) b (linked next (ends_at ends b) ++ ys)) + length (linked next (ends_at ends b)) ≡ sum_by size (all_linked next ends) + length (linked next (ends_at ends b) ++ ys) =
    grown_sum (all_linked next ends) b (linked next (ends_at ends b)) (linked next (ends_at ends b) ++ ys) (rw (all_length next ends) within) (all_at next ends b within) in
    let both : length (linked next (ends_at ends b) ++ ys) ≡ length (linked next (ends_at ends b)) + length ys = length-append (linked next (ends_at ends b)) ys in
    omega (arith, grown, both, beside.few)

-- a list joined to one of all lists
pub joined : (next : List ℕ) (ends : List Ends) (b : ℕ) (e : Ends) (ys : List ℕ) → AreLinked next ends → b < length ends → IsBeside next ends e ys → IsOneChanged next (joined_next next (ends_at ends b) e) ends b (joined_ends (ends_at ends b) e) (linked next (ends_at ends b) ++ ys)
joined next ends b e ys h within beside =
    elim (same_or_not (ends_at ends b).last 0) [
      | inl none ↦
          let empty : linked next (ends_at ends b) ≡ [] = last_zero next _ _ (h.chains b within) (sym (h.lasts b within) ∙ none) in
          let whole : linked next (ends_at ends b) ++ ys ≡ ys = rw empty refl in
          rw (next_of_none next (ends_at ends b) e none, ends_of_none (ends_at ends b) e none) record {
            kept_length = refl;
            others = λ q k _. h.chains q k;
            chain = rw whole beside.chain;
            last = rw whole beside.last;
            apart = λ q k _ same. beside.apart q k same;
            few = joined_few next ends b e ys within beside;
          }
      | inr some ↦
          elim (same_or_not e.first 0) [
            | inl none ↦
                let empty : ys ≡ [] = chain_none next ys (rw none at beside.chain) in
                let whole : linked next (ends_at ends b) ++ ys ≡ linked next (ends_at ends b) = rw empty (append_none (linked next (ends_at ends b))) in
                rw (next_of_no_more next (ends_at ends b) e some none, ends_of_no_more (ends_at ends b) e some none) record {
                  kept_length = refl;
                  others = λ q k _. h.chains q k;
                  chain = rw whole (h.chains b within);
                  last = rw whole (h.lasts b within);
                  apart = λ q k differ same. sym same ∙ h.apart q b k within differ same;
                  few = joined_few next ends b e ys within beside;
                }
            | inr more ↦
                rw (next_of_both next (ends_at ends b) e some more, ends_of_both (ends_at ends b) e some more)
                (both_joined next ends b e ys h within beside some more)
          ]
    ]
  where
    same_zero : (m n : ℕ) → n ≡ 0 → m ≡ n → m ≡ 0
    same_zero m n z e = e ∙ z

    ends_somewhere : (next : List ℕ) (at : ℕ) (ys : List ℕ) → IsChain next at ys → at ≢ 0 → 0 < last_of ys
    ends_somewhere next at [] c some = absurd (some c)
    ends_somewhere next at (y ∷ ys) c some = last_positive next at y ys c

    both_joined : (next : List ℕ) (ends : List Ends) (b : ℕ) (e : Ends) (ys : List ℕ) → AreLinked next ends → b < length ends → IsBeside next ends e ys → (ends_at ends b).last ≢ 0 → e.first ≢ 0 → IsOneChanged next (slice_set next ((ends_at ends b).last - 1) e.first) ends b (record { first = (ends_at ends b).first; last = e.last }) (linked next (ends_at ends b) ++ ys)
    both_joined next ends b e ys h within beside some more =
        let positive : 0 < (ends_at ends b).last = omega arith in
        let stop : slice_index next ((ends_at ends b).last - 1) ≡ 0 =
        rw (h.lasts b within) (last_stops next _ _ (h.chains b within) (rw (← h.lasts b within) positive)) in
        let back_last : 0 < last_of ys = ends_somewhere next e.first ys beside.chain more in
        let back_apart : last_of ys ≢ (ends_at ends b).last =
        λ same. some (same_zero _ _ (beside.apart b within (sym same ∙ sym beside.last)) (sym same ∙ sym beside.last)) in
        record {
          kept_length = grind (arith, common_steps);
          others = λ q (k : q < length ends) differ.
              chain_kept next _ _ _ e.first (h.chains q k) (λ same. some (h.apart b q within k (λ t. differ (sym t)) (sym same ∙ sym (h.lasts q k)))) positive stop;
          chain = chain_joined next _ _ _ e.first ys (h.chains b within) (sym (h.lasts b within)) positive stop
              (chain_kept next e.first ys _ e.first beside.chain back_apart positive stop);
          last = beside.last ∙ sym (last_joined (linked next (ends_at ends b)) ys back_last);
          apart = λ q k _ same. beside.apart q k same;
          few = joined_few next ends b e ys within beside;
        }

-- a list taken out of all lists
pub taken_out : (next : List ℕ) (ends : List Ends) (b : ℕ) → AreLinked next ends → b < length ends → IsOneChanged next next ends b no_ends []
taken_out next ends b h within =
    let rest : sum_by size (slice_set (all_linked next ends) b []) + length (linked next (ends_at ends b)) ≡ sum_by size (all_linked next ends) + 0 =
    grown_sum (all_linked next ends) b (linked next (ends_at ends b)) [] (rw (all_length next ends) within) (all_at next ends b within) in
    record {
      kept_length = refl;
      others = λ q k _. h.chains q k;
      chain = refl;
      last = refl;
      apart = λ q k _ same. refl;
      few = omega (arith, rest, h.few);
    }

pub beside_others : (next : List ℕ) (ends : List Ends) (b : ℕ) → AreLinked next ends → b < length ends → IsBeside next (slice_set ends b no_ends) (ends_at ends b) (linked next (ends_at ends b))
beside_others next ends b h within =
    let as_many : length (slice_set ends b no_ends) ≡ length ends = grind (arith, common_steps) in
    let rest : sum_by size (slice_set (all_linked next ends) b []) + length (linked next (ends_at ends b)) ≡ sum_by size (all_linked next ends) + 0 =
    grown_sum (all_linked next ends) b (linked next (ends_at ends b)) [] (rw (all_length next ends) within) (all_at next ends b within) in
    record {
      chain = h.chains b within;
      last = h.lasts b within;
      apart = λ q (k : q < length (slice_set ends b no_ends)) same. apart_from next ends b h within q (rw as_many at k) same;
      few = rw (changed_lists next next ends b no_ends [] h within (taken_out next ends b h within)) (omega (arith, rest, h.few));
    }
  where
    apart_from : (next : List ℕ) (ends : List Ends) (b : ℕ) → AreLinked next ends → b < length ends → (q : ℕ) → q < length ends → (ends_at (slice_set ends b no_ends) q).last ≡ (ends_at ends b).last → (ends_at ends b).last ≡ 0
    apart_from next ends b h within q k same =
        elim (same_or_not q b) [
          | inl s ↦
              let here : ends_at (slice_set ends b no_ends) q ≡ no_ends = rw s (get_or-set_same ends b no_ends no_ends within) in
              sym (rw here at same)
          | inr s ↦
              let here : ends_at (slice_set ends b no_ends) q ≡ ends_at ends q = get_or-set_other ends b q no_ends no_ends s in
              h.apart b q within k (λ t. s (sym t)) (sym (rw here at same))
        ]

-- one more number
pub grown_lists : (next : List ℕ) (ends : List Ends) → AreLinked next ends → all_linked (next ++ 0 ∷ []) ends ≡ all_linked next ends
grown_lists next ends h =
    let longer : length (next ++ 0 ∷ []) ≡ length next + 1 = grind (arith, common_steps) in
    ext_get_or [] (all_linked (next ++ 0 ∷ []) ends) (all_linked next ends) (all_length (next ++ 0 ∷ []) ends ∙ sym (all_length next ends))
    (λ q (k : q < length (all_linked (next ++ 0 ∷ []) ends)).
    let there : q < length ends = rw (all_length (next ++ 0 ∷ []) ends) at k in
    let short : length (linked next (ends_at ends q)) ≤ length next = short_enough next ends h q there in
    all_at (next ++ 0 ∷ []) ends q there
    ∙ linked_is (next ++ 0 ∷ []) (ends_at ends q) (linked next (ends_at ends q)) (chain_grows next _ _ (h.chains q there)) (omega (arith, short, longer))
    ∙ sym (all_at next ends q there))

pub grown_linked : (next : List ℕ) (ends : List Ends) → AreLinked next ends → AreLinked (next ++ 0 ∷ []) ends
grown_linked next ends h =
    let longer : length (next ++ 0 ∷ []) ≡ length next + 1 = grind (arith, common_steps) in
    record {
      chains = λ q (k : q < length ends). rw (same next ends h q k) (chain_grows next _ _ (h.chains q k));
      lasts = λ q (k : q < length ends). rw (same next ends h q k) (h.lasts q k);
      apart = h.apart;
      few = rw (grown_lists next ends h) (omega (arith, longer, h.few));
    }
  where
    same : (next : List ℕ) (ends : List Ends) → AreLinked next ends → (q : ℕ) → q < length ends → linked (next ++ 0 ∷ []) (ends_at ends q) ≡ linked next (ends_at ends q)
    same next ends h q k = sym (all_at (next ++ 0 ∷ []) ends q k) ∙ ap (λ (ls : List (List ℕ)). list_at ls q) (grown_lists next ends h) ∙ all_at next ends q k

pub new_number : (next : List ℕ) (ends : List Ends) → AreLinked next ends → (n : ℕ) → n ≡ length next + 1 → IsBeside (next ++ 0 ∷ []) ends (record { first = n; last = n }) (n ∷ [])
new_number next ends h n is =
    let longer : length (next ++ 0 ∷ []) ≡ length next + 1 = grind (arith, common_steps) in
    let stop : slice_index (next ++ 0 ∷ []) (n - 1) ≡ 0 = grind (arith, common_steps) in
    record {
      chain = (refl, omega arith, omega arith, stop);
      last = refl;
      apart = λ q (k : q < length ends) same. absurd (omega (arith, is, same, h.lasts q k, last_within next _ _ (h.chains q k)));
      few = rw (grown_lists next ends h) (omega (arith, longer, h.few));
    }
