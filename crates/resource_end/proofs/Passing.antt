-- The keys of those entries of a map whose value passes a test, where the map changes.
use Rattle.std.proofs.Common.{◌≡◌, ◌∙◌, Bool, true, false, cond, List, [], ◌∷◌, Some, None, refl, sym, ap, subst}
use Rattle.std.specs.Prelude.{is_some, ◌||◌}
use Rattle.std.specs.BTreeMap.{insert_entry, is_at}
use Rattle.std.specs.BTreeSet.{insert_key}
use Rattle.std.specs.Set.{remove_key}
use Rattle.std.specs.Cmp.{IsTotalOrder}
use Rattle.std.specs.List.{AllByRecursion, list_any}
use Rattle.std.specs.List.Sorted.{IsStrictlySortedBy}
use Rattle.std.specs.Map.{keys_of, lookup, remove_entry, set_value}
use Rattle.std.specs.Option.{unwrap_or}
use Rattle.std.specs.declared.cmp.Ordering.{Ordering}
use Rattle.std.specs.declared.cmp.Ordering.TheVariants.{Less, Equal, Greater}
use Rattle.std.specs.Ordering.{is_eq, match_ordering, ordering_reverse}
use Rattle.std.proofs.lemmas.Bool.{both_ways}
use Rattle.std.proofs.lemmas.Cmp.{tied_itself}
use Rattle.std.proofs.lemmas.Map.Keys.{sorted_head, sorted_tail}
use Rattle.resource_end.specs.Inside.{keys_passing}
use Rattle.resource_end.proofs.Recorded.{each_weaker}

module _ {K X : Type 0} (R : K → K → Ordering) (total : IsTotalOrder R) (tied : (k e : K) → R k e ≡ Equal → e ≡ k) (p : X → Bool) where
  abbrev pub passing : List (K × X) → List K
  passing es = keys_passing p es

  abbrev Below : K → List K → Type 0
  Below k ks = AllByRecursion (λ y. R k y ≡ Less) ks

  below_passing : (k : K) (es : List (K × X)) → Below k (keys_of es) → Below k (passing es)
  below_passing k [] all = tt
  below_passing k (e ∷ es) all = by (below_passing k es all.1) (p e.1)
    where
      by : Below k (passing es) → (b : Bool) → Below k (cond b (e.0 ∷ passing es) (passing es))
      by rest true = (all.0, rest)
      by rest false = rest

  put_first : (k : K) (ks : List K) → Below k ks → insert_key R ks k ≡ k ∷ ks
  put_first k [] all = refl
  put_first k (x ∷ ks) all = ap (λ o. match_ordering o (k ∷ x ∷ ks) (x ∷ ks) (x ∷ insert_key R ks k)) all.0

  take_none : (k : K) (ks : List K) → Below k ks → remove_key (is_at (R k)) ks ≡ ks
  take_none k [] all = refl
  take_none k (x ∷ ks) all =
      ap (λ o. cond (is_eq o) ks (x ∷ remove_key (is_at (R k)) ks)) all.0 ∙ ap (λ rest. x ∷ rest) (take_none k ks all.1)

  -- a key comes before those behind one that it comes before, or that it is
  below_more : (k : K) (e : K × X) (es : List (K × X)) → IsStrictlySortedBy R (keys_of (e ∷ es)) → R k e.0 ≡ Less → Below k (passing es)
  below_more k e es sorted less =
      below_passing k es (each_weaker (λ y. R e.0 y ≡ Less) (λ y. R k y ≡ Less) (keys_of es) (λ y h. total.trans k e.0 y less h) (sorted_head R e.0 (keys_of es) sorted))

  below_itself : (k : K) (e : K × X) (es : List (K × X)) → IsStrictlySortedBy R (keys_of (e ∷ es)) → R k e.0 ≡ Equal → Below k (passing es)
  below_itself k e es sorted equal = below_passing k es (subst (λ x. Below x (keys_of es)) (tied k e.0 equal) (sorted_head R e.0 (keys_of es) sorted))

  -- one that is kept, in front of those out of which a key is taken
  taken_behind : (k : K) (e : K × X) (es changed : List (K × X)) → is_eq (R k e.0) ≡ false → passing changed ≡ remove_key (is_at (R k)) (passing es)
      → (b : Bool) → p e.1 ≡ b → passing (e ∷ changed) ≡ remove_key (is_at (R k)) (cond b (e.0 ∷ passing es) (passing es))
  taken_behind k e es changed apart rest true i =
      (λ j. cond (i j) (e.0 ∷ rest j) (rest j)) ∙ sym (ap (λ t. cond t (passing es) (e.0 ∷ remove_key (is_at (R k)) (passing es))) apart)
  taken_behind k e es changed apart rest false i = (λ j. cond (i j) (e.0 ∷ rest j) (rest j))

  -- one that is taken away, or no longer passes
  taken_here : (k : K) (e : K × X) (es : List (K × X)) → IsStrictlySortedBy R (keys_of (e ∷ es)) → R k e.0 ≡ Equal → (b : Bool)
      → passing es ≡ remove_key (is_at (R k)) (cond b (e.0 ∷ passing es) (passing es))
  taken_here k e es sorted equal true = sym (ap (λ o. cond (is_eq o) (passing es) (e.0 ∷ remove_key (is_at (R k)) (passing es))) equal)
  taken_here k e es sorted equal false = sym (take_none k (passing es) (below_itself k e es sorted equal))

  -- ---- one more, or another one in its place

  pub put_passing : (k : K) (v : X) (es : List (K × X)) → IsStrictlySortedBy R (keys_of es) → p v ≡ true
      → passing (insert_entry R es k v) ≡ insert_key R (passing es) k
  put_passing k v [] sorted passes = ap (λ b. cond b (k ∷ []) []) passes
  put_passing k v (e ∷ es) sorted passes = by (put_passing k v es (sorted_tail R e.0 (keys_of es) sorted) passes) (R k e.0) (p e.1) refl refl
    where
      by : passing (insert_entry R es k v) ≡ insert_key R (passing es) k → (o : Ordering) (b : Bool) → R k e.0 ≡ o → p e.1 ≡ b
          → passing (match_ordering o ((k, v) ∷ e ∷ es) ((e.0, v) ∷ es) (e ∷ insert_entry R es k v))
          ≡ insert_key R (cond b (e.0 ∷ passing es) (passing es)) k
      by rest Less true h i =
          (λ j. cond (passes j) (k ∷ cond (i j) (e.0 ∷ passing es) (passing es)) (cond (i j) (e.0 ∷ passing es) (passing es)))
          ∙ sym (ap (λ o. match_ordering o (k ∷ e.0 ∷ passing es) (e.0 ∷ passing es) (e.0 ∷ insert_key R (passing es) k)) h)
      by rest Less false h i =
          (λ j. cond (passes j) (k ∷ cond (i j) (e.0 ∷ passing es) (passing es)) (cond (i j) (e.0 ∷ passing es) (passing es)))
          ∙ sym (put_first k (passing es) (below_more k e es sorted h))
      by rest Equal true h i =
          ap (λ b. cond b (e.0 ∷ passing es) (passing es)) passes
          ∙ sym (ap (λ o. match_ordering o (k ∷ e.0 ∷ passing es) (e.0 ∷ passing es) (e.0 ∷ insert_key R (passing es) k)) h)
      by rest Equal false h i =
          ap (λ b. cond b (e.0 ∷ passing es) (passing es)) passes
          ∙ ap (λ x. x ∷ passing es) (tied k e.0 h)
          ∙ sym (put_first k (passing es) (below_itself k e es sorted h))
      by rest Greater true h i =
          (λ j. cond (i j) (e.0 ∷ rest j) (rest j))
          ∙ sym (ap (λ o. match_ordering o (k ∷ e.0 ∷ passing es) (e.0 ∷ passing es) (e.0 ∷ insert_key R (passing es) k)) h)
      by rest Greater false h i = (λ j. cond (i j) (e.0 ∷ rest j) (rest j))

  pub put_failing : (k : K) (v : X) (es : List (K × X)) → IsStrictlySortedBy R (keys_of es) → p v ≡ false
      → passing (insert_entry R es k v) ≡ remove_key (is_at (R k)) (passing es)
  put_failing k v [] sorted fails = ap (λ b. cond b (k ∷ []) []) fails
  put_failing k v (e ∷ es) sorted fails = by (put_failing k v es (sorted_tail R e.0 (keys_of es) sorted) fails) (R k e.0) (p e.1) refl refl
    where
      by : passing (insert_entry R es k v) ≡ remove_key (is_at (R k)) (passing es) → (o : Ordering) (b : Bool) → R k e.0 ≡ o → p e.1 ≡ b
          → passing (match_ordering o ((k, v) ∷ e ∷ es) ((e.0, v) ∷ es) (e ∷ insert_entry R es k v))
          ≡ remove_key (is_at (R k)) (cond b (e.0 ∷ passing es) (passing es))
      by rest Less b h i =
          (λ j. cond (fails j) (k ∷ cond (i j) (e.0 ∷ passing es) (passing es)) (cond (i j) (e.0 ∷ passing es) (passing es)))
          ∙ sym (less b)
        where
          less : (b : Bool) → remove_key (is_at (R k)) (cond b (e.0 ∷ passing es) (passing es)) ≡ cond b (e.0 ∷ passing es) (passing es)
          less true = take_none k (e.0 ∷ passing es) (h, below_more k e es sorted h)
          less false = take_none k (passing es) (below_more k e es sorted h)
      by rest Equal b h i = ap (λ t. cond t (e.0 ∷ passing es) (passing es)) fails ∙ taken_here k e es sorted h b
      by rest Greater b h i = taken_behind k e es (insert_entry R es k v) (ap is_eq h) rest b i

  -- ---- another value in the place of one that is there

  pub set_same : (k : K) (v w : X) (es : List (K × X)) → lookup (is_at (R k)) es ≡ Some w → p v ≡ p w
      → passing (set_value (is_at (R k)) es v) ≡ passing es
  set_same k v w [] there same = refl
  set_same k v w (e ∷ es) there same = by (set_same k v w es) (is_eq (R k e.0)) refl
    where
      by : (lookup (is_at (R k)) es ≡ Some w → p v ≡ p w → passing (set_value (is_at (R k)) es v) ≡ passing es)
          → (b : Bool) → is_eq (R k e.0) ≡ b
          → passing (cond b ((e.0, v) ∷ es) (e ∷ set_value (is_at (R k)) es v)) ≡ cond (p e.1) (e.0 ∷ passing es) (passing es)
      by rest true h =
          let it : Some e.1 ≡ Some w = ap (λ b. cond b (Some e.1) (lookup (is_at (R k)) es)) (sym h) ∙ there in
          ap (λ b. cond b (e.0 ∷ passing es) (passing es)) (same ∙ ap p (ap (λ o. unwrap_or o w) (sym it)))
      by rest false h =
          ap (λ ks. cond (p e.1) (e.0 ∷ ks) ks) (rest (ap (λ b. cond b (Some e.1) (lookup (is_at (R k)) es)) (sym h) ∙ there) same)

  pub set_failing : (k : K) (v : X) (es : List (K × X)) → IsStrictlySortedBy R (keys_of es) → p v ≡ false
      → passing (set_value (is_at (R k)) es v) ≡ remove_key (is_at (R k)) (passing es)
  set_failing k v [] sorted fails = refl
  set_failing k v (e ∷ es) sorted fails = by (set_failing k v es (sorted_tail R e.0 (keys_of es) sorted) fails) (R k e.0) (p e.1) refl refl
    where
      by : passing (set_value (is_at (R k)) es v) ≡ remove_key (is_at (R k)) (passing es) → (o : Ordering) (b : Bool) → R k e.0 ≡ o → p e.1 ≡ b
          → passing (cond (is_eq o) ((e.0, v) ∷ es) (e ∷ set_value (is_at (R k)) es v)) ≡ remove_key (is_at (R k)) (cond b (e.0 ∷ passing es) (passing es))
      by rest Less b h i = taken_behind k e es (set_value (is_at (R k)) es v) (ap is_eq h) rest b i
      by rest Equal b h i = ap (λ t. cond t (e.0 ∷ passing es) (passing es)) fails ∙ taken_here k e es sorted h b
      by rest Greater b h i = taken_behind k e es (set_value (is_at (R k)) es v) (ap is_eq h) rest b i

  -- ---- one less

  pub removed_passing : (k : K) (es : List (K × X)) → IsStrictlySortedBy R (keys_of es) → passing (remove_entry (is_at (R k)) es) ≡ remove_key (is_at (R k)) (passing es)
  removed_passing k [] sorted = refl
  removed_passing k (e ∷ es) sorted = by (removed_passing k es (sorted_tail R e.0 (keys_of es) sorted)) (R k e.0) (p e.1) refl refl
    where
      by : passing (remove_entry (is_at (R k)) es) ≡ remove_key (is_at (R k)) (passing es) → (o : Ordering) (b : Bool) → R k e.0 ≡ o → p e.1 ≡ b
          → passing (cond (is_eq o) es (e ∷ remove_entry (is_at (R k)) es)) ≡ remove_key (is_at (R k)) (cond b (e.0 ∷ passing es) (passing es))
      by rest Less b h i = taken_behind k e es (remove_entry (is_at (R k)) es) (ap is_eq h) rest b i
      by rest Equal b h i = taken_here k e es sorted h b
      by rest Greater b h i = taken_behind k e es (remove_entry (is_at (R k)) es) (ap is_eq h) rest b i

  -- ---- a key that is put in and taken out again

  none_passing : (k : K) (es : List (K × X)) → lookup (is_at (R k)) es ≡ None → list_any (is_at (R k)) (passing es) ≡ false
  none_passing k [] none = refl
  none_passing k (e ∷ es) none = by (is_eq (R k e.0)) refl (none_passing k es)
    where
      of_both : (b : Bool) → list_any (is_at (R k)) (passing es) ≡ false → is_eq (R k e.0) ≡ false → list_any (is_at (R k)) (cond b (e.0 ∷ passing es) (passing es)) ≡ false
      of_both true rest h = (λ i. h i || rest i)
      of_both false rest h = rest

      by : (b : Bool) → is_eq (R k e.0) ≡ b → (lookup (is_at (R k)) es ≡ None → list_any (is_at (R k)) (passing es) ≡ false)
          → list_any (is_at (R k)) (cond (p e.1) (e.0 ∷ passing es) (passing es)) ≡ false
      by true h rest = absurd (both_ways _ (ap is_some (sym (ap (λ b. cond b (Some e.1) (lookup (is_at (R k)) es)) h) ∙ none)) refl)
      by false h rest = of_both (p e.1) (rest (ap (λ b. cond b (Some e.1) (lookup (is_at (R k)) es)) (sym h) ∙ none)) h

  put_taken : (k : K) (ks : List K) → list_any (is_at (R k)) ks ≡ false → remove_key (is_at (R k)) (insert_key R ks k) ≡ ks
  put_taken k [] none = ap (λ o. cond (is_eq o) [] (k ∷ [])) (tied_itself total k)
  put_taken k (x ∷ ks) none = by (put_taken k ks) (R k x) refl
    where
      by : (list_any (is_at (R k)) ks ≡ false → remove_key (is_at (R k)) (insert_key R ks k) ≡ ks) → (o : Ordering) → R k x ≡ o
          → remove_key (is_at (R k)) (match_ordering o (k ∷ x ∷ ks) (x ∷ ks) (x ∷ insert_key R ks k)) ≡ x ∷ ks
      by rest Less h = ap (λ o. cond (is_eq o) (x ∷ ks) (k ∷ remove_key (is_at (R k)) (x ∷ ks))) (tied_itself total k)
      by rest Equal h = absurd (both_ways _ none (ap (λ o. is_eq o || list_any (is_at (R k)) ks) h))
      by rest Greater h =
          let nowhere : list_any (is_at (R k)) ks ≡ false = ap (λ o. is_eq o || list_any (is_at (R k)) ks) (sym h) ∙ none in
          ap (λ o. cond (is_eq o) (insert_key R ks k) (x ∷ remove_key (is_at (R k)) (insert_key R ks k))) h ∙ ap (λ xs. x ∷ xs) (rest nowhere)

  pub taken_back : (k : K) (es : List (K × X)) → lookup (is_at (R k)) es ≡ None → remove_key (is_at (R k)) (insert_key R (passing es) k) ≡ passing es
  taken_back k es none = put_taken k (passing es) (none_passing k es none)

  -- ---- each is found

  abbrev Found : List (K × X) → (K × X) → Type 0
  Found all e = lookup (is_at (R e.0)) all ≡ Some e.1

  later : (d : K × X) (es : List (K × X)) → Below d.0 (keys_of es) → (all : List (K × X)) → AllByRecursion (Found all) es → AllByRecursion (Found (d ∷ all)) es
  later d [] below all found = tt
  later d (e ∷ es) below all found =
      let greater : R e.0 d.0 ≡ Greater = total.antisymm e.0 d.0 ∙ ap ordering_reverse below.0 in
      (ap (λ o. cond (is_eq o) (Some d.1) (lookup (is_at (R e.0)) all)) greater ∙ found.0, later d es below.1 all found.1)

  pub each_found : (es : List (K × X)) → IsStrictlySortedBy R (keys_of es) → AllByRecursion (Found es) es
  each_found [] sorted = tt
  each_found (e ∷ es) sorted = (
    ap (λ o. cond (is_eq o) (Some e.1) (lookup (is_at (R e.0)) es)) (tied_itself total e.0),
    later e es (sorted_head R e.0 (keys_of es) sorted) es (each_found es (sorted_tail R e.0 (keys_of es) sorted)),
  )
