-- How the index of a history finds its calls.
use Rattle.std.proofs.Common.{◌≡◌, ◌∙◌, ◌⊎◌, ◌<◌, ◌≤◌, ◌+◌, ◌==◌, ◌&&◌, ◌||◌, inl, inr, refl, sym, ap, subst, ℕ, suc, zero, cond, not, Bool, true, false, if◌then◌else◌, List, [], ◌∷◌, ◌++◌, length, get_or, take, Option, Some, None, is_some, nat_lt, nat_le, Result, Ok, Err, IsOk, OnOk, arith}
use Rattle.std.specs.List.{list_any, position, slice_get}
use Rattle.std.specs.Option.{option_and_then, option_map, option_map_or, option_or}
use Rattle.std.proofs.lemmas.Bool.Decides.{nat_tests}
use Rattle.std.proofs.lemmas.List.Folds.{list_any_more}
use Rattle.std.proofs.lemmas.Option.{slice_get_past}
use Rattle.ots_model.specs.declared.completion.Stood.{Stood}
use Rattle.ots_model.specs.declared.service.RetryKey.{RetryKey}
use Rattle.coordinator.specs.Family.{Family}
use Rattle.coordinator.specs.History.{answer_at, answer_of, first_with, has_key, is_for, is_later, kept, kept_for, later_answer, same_key}
use Rattle.coordinator.specs.Laws.{HistoriesGrowByEntries, entry_made}
use Rattle.coordinator.specs.Step.{entry_of, family_step}
use Rattle.coordinator.specs.declared.event.Event.{Event}
use Rattle.coordinator.specs.declared.said.Entry.{Entry}
use Rattle.coordinator.specs.declared.said.Finished.{Finished}
use Rattle.coordinator.specs.declared.said.Said.{Said}
use Rattle.coordinator.specs.declared.said.Said.TheVariants as said
use Rattle.family_step.specs.Callers.{AreAnswered, IsAdded, IsAnswered, IsIndex, IsNoted, Places, answer_to, answered_at, answered_by, answered_later, answering, answers_at, call_for, call_in, caller_key, is_keyed, key_at, meets, meets_keyed, noted, places_at, same_caller, told_by, unanswered}
use Rattle.family_step.specs.declared.callers.CallPlaces.{CallPlaces}
use Rattle.family_step.specs.Earlier.{AnswersAreBefore, AreThere, EntriesAreBefore}
use Rattle.family_step.proofs.Earlier.{entries_pushed, steps_earlier}
use Rattle.family_step.proofs.Later.{later_is}
use Rattle.family_step.proofs.Positions.{position_next, position_passes, position_push, position_within}
use Rattle.family_step.specs.declared.ready.Ready.{Ready}

there : {X : Type 0} (xs : List X) (i : ℕ) → i < length xs → is_some (slice_get xs i) ≡ true
there [] i less = absurd (omega (arith, less))
there (x ∷ xs) zero less = refl
there (x ∷ xs) (suc i) less = there xs i (omega (arith, less))

last : {X : Type 0} (xs : List X) (y : X) → slice_get (xs ++ y ∷ []) (length xs) ≡ Some y
last [] y = refl
last (x ∷ xs) y = last xs y

or_none : {A : Type 0} (o : Option A) → option_or o None ≡ o
or_none None = refl
or_none (Some x) = refl

map_some : {A B : Type 0} (f : A → B) (o : Option A) → is_some (option_map f o) ≡ is_some o
map_some f None = refl
map_some f (Some x) = refl

map_none : {A B : Type 0} (f : A → B) (o : Option A) → option_map f o ≡ None → o ≡ None
map_none f None e = refl
map_none f (Some x) e = absurd (cc (e))

-- a call at a place, with the place of its answer
abbrev stood_at : ℕ → Option ℕ → CallPlaces
stood_at at o = record { entry = at; answered = o }

-- the place of the entry that answers a call
abbrev pub place_of : CallPlaces → ℕ
place_of c = option_map_or (λ x. x) c.answered c.entry

-- ---- what a call is answered

module _ (places : Places) (entries : List Entry) (index : IsIndex places entries) where
  pub kept_none : (k : RetryKey) → call_in places k ≡ None → kept entries k ≡ None
  unfolding kept
  kept_none k none = ap (option_and_then (answer_at entries)) (map_none (places_at entries) (position (has_key k) entries) (sym (index k) ∙ none))

  place_of_answer : (o : Option ℕ) → option_map place_of (option_map (places_at entries) o) ≡ option_map (answering entries) o
  place_of_answer None = refl
  place_of_answer (Some i) = refl

  pub answered_is : (k : RetryKey) → option_map place_of (call_in places k) ≡ answered_at entries k
  answered_is k = ap (option_map place_of) (index k) ∙ place_of_answer (first_with entries k)

  stands : (o : Option ℕ) (c : CallPlaces) → option_map (places_at entries) o ≡ Some c → (o ≡ Some c.entry) × (places_at entries c.entry ≡ c)
  stands None c e = absurd (cc (e))
  stands (Some i) c e =
      let same : places_at entries i ≡ c = cc (e) in
      let place : i ≡ c.entry = ap (λ (d : CallPlaces). d.entry) same in
      (ap Some place, ap (places_at entries) (sym place) ∙ same)

  pub kept_at : (k : RetryKey) (c : CallPlaces) → call_in places k ≡ Some c → kept entries k ≡ option_map (answer_to entries c) (slice_get entries c.entry)
  unfolding kept answer_at
  kept_at k c at =
      let parts = stands (position (has_key k) entries) c (sym (index k) ∙ at) in
      let later : later_answer entries c.entry ≡ answered_later entries c = later_is c.entry entries ∙ ap (answered_later entries) parts.1 in
      ap (option_and_then (answer_at entries)) parts.0
      ∙ ap (λ (o : Option Said). option_map (λ (e : Entry). if is_later e.said then option_map_or (λ x. x) o said.Later else e.said) (slice_get entries c.entry)) later

  answered : (o : Option ℕ) → ((i : ℕ) → o ≡ Some i → i < length entries) → is_some (option_and_then (answer_at entries) o) ≡ is_some o
  unfolding answer_at
  answered None within = refl
  answered (Some i) within = map_some (answer_of entries i) (slice_get entries i) ∙ there entries i (within i refl)

  pub known_is : (key : Option RetryKey) → is_some (kept_for entries key) ≡ is_some (call_for places key)
  unfolding kept
  known_is None = refl
  known_is (Some k) =
      answered (position (has_key k) entries) (position_within (has_key k) entries)
      ∙ sym (map_some (places_at entries) (position (has_key k) entries)) ∙ sym (ap (λ (o : Option CallPlaces). is_some o) (index k))

-- ---- no entry answers a call that isn't there

none_for : (n : ℕ) (xs : List Finished) → AnswersAreBefore n xs → list_any (is_for n) xs ≡ false
none_for n [] p = refl
none_for n (a ∷ xs) p =
    let less = p.0 in
    let other : is_for n a ≡ false = grind (arith, nat_tests, less) in
    ap (λ (b : Bool). b || list_any (is_for n) xs) other ∙ none_for n xs p.1

none_in : (n : ℕ) (xs : List Entry) → EntriesAreBefore n xs → position (answers_at n) xs ≡ None
none_in n [] p = refl
none_in n (e ∷ xs) p =
    position_next (answers_at n) e xs
    ∙ ap (λ (b : Bool). cond b (Some 0) (option_map suc (position (answers_at n) xs))) (none_for n e.finished p.0)
    ∙ ap (option_map suc) (none_in n xs p.1)

-- ---- after a step

keyed_by : (k : RetryKey) (o : Option Entry) → option_map (has_key k) o ≡ Some true → option_map_or (same_key k) (option_and_then (λ (e : Entry). e.event.key) o) false ≡ true
keyed_by k None e = absurd (cc (e))
keyed_by k (Some x) e =
    let has : has_key k x ≡ true = cc (e) in
    has

first_answer : (b : Bool) (at place : ℕ) (o : Option ℕ)
    → (if b then stood_at at (option_or o (Some place)) else stood_at at o) ≡ stood_at at (option_or o (if b then Some place else None))
first_answer true at place o = refl
first_answer false at place o = ap (stood_at at) (sym (or_none o))

module _ (before after : Places) (xs : List Entry) (index : IsIndex before xs) where
  same_index : (later : List Entry) → later ≡ xs → IsNoted later (length xs) before after → IsIndex after later
  same_index later same is = λ k.
      is k ∙ ap (λ (es : List Entry). noted es (length xs) (slice_get es (length xs)) k (call_in before k)) same
      ∙ ap (λ (o : Option Entry). noted xs (length xs) o k (call_in before k)) (slice_get_past xs (length xs) (omega arith))
      ∙ index k ∙ ap (λ (es : List Entry). option_map (places_at es) (position (has_key k) es)) (sym same)

  module _ (x : Entry) (early : EntriesAreBefore (length xs) xs) (earlier : AnswersAreBefore (length xs) x.finished) where
    abbrev grown : List Entry
    grown = xs ++ x ∷ []

    unheard : position (answers_at (length xs)) grown ≡ None
    unheard =
        position_push (answers_at (length xs)) xs x
        ∙ ap (λ (o : Option ℕ). option_or o (if answers_at (length xs) x then Some (length xs) else None)) (none_in (length xs) xs early)
        ∙ ap (λ (b : Bool). if b then Some (length xs) else None) (none_for (length xs) x.finished earlier)

    keyed : (k : RetryKey) (at : ℕ) → position (has_key k) xs ≡ Some at → is_keyed grown at k ≡ true
    keyed k at is =
        keyed_by k (slice_get grown at) (position_passes (has_key k) grown at
        (position_push (has_key k) xs x ∙ ap (λ (o : Option ℕ). option_or o (if has_key k x then Some (length xs) else None)) is))

    told : (k : RetryKey) (at : ℕ) → position (has_key k) xs ≡ Some at → told_by grown x.finished (length xs) k (places_at xs at) ≡ places_at grown at
    told k at is =
        ap (λ (b : Bool). cond (b && answers_at at x) (answered_by (length xs) (places_at xs at)) (places_at xs at)) (keyed k at is)
        ∙ first_answer (answers_at at x) at (length xs) (position (answers_at at) xs)
        ∙ ap (stood_at at) (sym (position_push (answers_at at) xs x))

    new : (b : Bool) → (if b then Some (unanswered (length xs)) else None) ≡ option_map (places_at grown) (if b then Some (length xs) else None)
    new true = ap (λ (o : Option ℕ). Some (stood_at (length xs) o)) (sym unheard)
    new false = refl

    by_place : (k : RetryKey) (o : Option ℕ) → position (has_key k) xs ≡ o
        → option_or (option_map (told_by grown x.finished (length xs) k) (option_map (places_at xs) o)) (if has_key k x then Some (unanswered (length xs)) else None)
        ≡ option_map (places_at grown) (option_or o (if has_key k x then Some (length xs) else None))
    by_place k None is = new (has_key k x)
    by_place k (Some at) is = ap Some (told k at is)

    grown_index : IsNoted grown (length xs) before after → IsIndex after grown
    grown_index is = λ k.
        is k ∙ ap (λ (o : Option Entry). noted grown (length xs) o k (call_in before k)) (last xs x)
        ∙ ap (λ (o : Option CallPlaces). option_or (option_map (told_by grown x.finished (length xs) k) o) (if has_key k x then Some (unanswered (length xs)) else None)) (index k)
        ∙ by_place k (position (has_key k) xs) refl
        ∙ sym (ap (option_map (places_at grown)) (position_push (has_key k) xs x))

-- the entry that a step makes, where it makes one
abbrev new_entry : Family → Event → Option Stood → Entry
new_entry f e stood = entry_of e stood (family_step f e stood).said (family_step f e stood).finished

pub there_after : (f : Family) (e : Event) (stood : Option Stood) (later : Family)
    → HistoriesGrowByEntries → later ≡ (family_step f e stood).family → AreThere f → AreThere later
there_after f e stood later grow is before =
    subst (λ (g : Family). AreThere g) (sym is) (record { waiting = (steps_earlier e stood f before.waiting).0; answered = by_case (grow f e stood) })
  where
    by_case : ((family_step f e stood).family ≡ f) ⊎ ((family_step f e stood).family.entries ≡ entry_made f e stood (family_step f e stood))
        → EntriesAreBefore (length (family_step f e stood).family.entries) (family_step f e stood).family.entries
    by_case (inl same) = subst (λ (g : Family). EntriesAreBefore (length g.entries) g.entries) (sym same) before.answered
    by_case (inr made) =
        subst (λ (es : List Entry). EntriesAreBefore (length es) es) (sym made)
        (entries_pushed f.entries (new_entry f e stood) before.answered (steps_earlier e stood f before.waiting).1)

pub index_after : (f : Family) (e : Event) (stood : Option Stood) (later : Family) (before after : Places) (entries : List Entry) (place : ℕ)
    → HistoriesGrowByEntries → later ≡ (family_step f e stood).family → AreThere f → IsIndex before f.entries
    → entries ≡ later.entries → place ≡ length f.entries → IsNoted entries place before after → IsIndex after later.entries
index_after f e stood later before after entries place grow is early index shown at noted_at =
    by_case (grow f e stood)
  where
    noted_here : IsNoted later.entries (length f.entries) before after
    noted_here = subst (λ (n : ℕ). IsNoted later.entries n before after) at (subst (λ (es : List Entry). IsNoted es place before after) shown noted_at)

    same_entries : later.entries ≡ (family_step f e stood).family.entries
    same_entries = ap (λ (g : Family). g.entries) is

    by_case : ((family_step f e stood).family ≡ f) ⊎ ((family_step f e stood).family.entries ≡ entry_made f e stood (family_step f e stood)) → IsIndex after later.entries
    by_case (inl same) = same_index before after f.entries index later.entries (same_entries ∙ ap (λ (g : Family). g.entries) same) noted_here
    by_case (inr made) =
        let grown_is : later.entries ≡ entry_made f e stood (family_step f e stood) = same_entries ∙ made in
        subst (λ (es : List Entry). IsIndex after es) (sym grown_is)
        (grown_index before after f.entries index (new_entry f e stood) early.answered (steps_earlier e stood f early.waiting).1
        (subst (λ (es : List Entry). IsNoted es (length f.entries) before after) grown_is noted_here))

pub on_ok : {A E : Type 0} (r : Result A E) (P : Type 0) → IsOk r → OnOk r P → P
on_ok (Ok x) P ok p = p
on_ok (Err x) P ok p = absurd (cc (ok))

pub none_of : {A : Type 0} (o : Option A) → is_some o ≡ false → o ≡ None
none_of None e = refl
none_of (Some x) e = absurd (cc (e))

turned : (n l : ℕ) → nat_lt n l ≡ not (nat_le l n)
turned n l = grind (arith, nat_tests)

pub less_is : (count limit n l : ℕ) → count ≡ n → limit ≡ l → nat_lt count limit ≡ not (nat_le l n)
less_is count limit n l at is = ap (λ (m : ℕ). nat_lt m limit) at ∙ ap (nat_lt n) is ∙ turned n l

-- ---- a key is added

both : (p q : Bool) → (p && q) ≡ true → (p ≡ true) × (q ≡ true)
both true true e = (refl, refl)
both true false e = absurd (cc (e))
both false q e = absurd (cc (e))

same_of : (m n : ℕ) → (m == n) ≡ true → m ≡ n
same_of m n e = grind (arith, nat_tests, e)

same_keys : (key k : RetryKey) → same_caller (caller_key key) (caller_key k) ≡ true → key ≡ k
same_keys key k e =
    let parts = both (key.client == k.client) (key.number == k.number) e in
    let client = same_of key.client k.client parts.0 in
    let number = same_of key.number k.number parts.1 in
    ap (λ (n : ℕ). record { client = n; number = key.number }) client ∙ ap (λ (n : ℕ). record { client = k.client; number = n }) number

added_by : (o old : Option CallPlaces) (key k : RetryKey) (new : CallPlaces) (b : Bool) → o ≡ cond b (Some new) old → (b ≡ true → old ≡ None)
    → o ≡ option_or old (if b then Some new else None)
added_by o old key k new true put none = put ∙ sym (ap (λ (x : Option CallPlaces). option_or x (Some new)) (none refl))
added_by o old key k new false put none = put ∙ sym (or_none old)

turn : (m n : ℕ) → (m == n) ≡ (n == m)
turn m n = grind (arith, nat_tests)

flip : (key k : RetryKey) → same_key key k ≡ same_key k key
flip key k =
    ap (λ (b : Bool). b && (key.number == k.number)) (turn key.client k.client) ∙ ap (λ (b : Bool). (k.client == key.client) && b) (turn key.number k.number)

pub added : (before after : Places) (key k : RetryKey) (place : ℕ) → call_in before key ≡ None
    → call_in after k ≡ cond (same_caller (caller_key key) (caller_key k)) (Some (unanswered place)) (call_in before k)
    → call_in after k ≡ option_or (call_in before k) (if same_key k key then Some (unanswered place) else None)
added before after key k place none put =
    added_by (call_in after k) (call_in before k) key k (unanswered place) (same_key k key)
    (put ∙ ap (λ (b : Bool). cond b (Some (unanswered place)) (call_in before k)) (flip key k))
    (λ same. ap (call_in before) (same_keys k key same) ∙ none)

-- ---- a call is answered

map_same : (o : Option CallPlaces) → o ≡ option_map (λ (c : CallPlaces). c) o
map_same None = refl
map_same (Some c) = refl

-- at a place with no key
pub met_none : (entries : List Entry) (position place : ℕ) (before : Places) → key_at entries position ≡ None → IsAnswered entries position place before before
met_none entries position place before none = λ k.
    map_same (call_in before k)
    ∙ ap (λ (o : Option RetryKey). option_map (λ (c : CallPlaces). if option_map_or (same_key k) o false then meets position place c else c) (call_in before k)) (sym none)

if_same : (m : CallPlaces → CallPlaces) (b : Bool) (o p : Option CallPlaces) → (b ≡ true → p ≡ o)
    → cond b (option_map m p) o ≡ option_map (λ (c : CallPlaces). if b then m c else c) o
if_same m true o p same = ap (option_map m) (same refl)
if_same m false o p same = map_same o

-- at a place with this key
pub met : (entries : List Entry) (position place : ℕ) (key : RetryKey) (before after : Places) → key_at entries position ≡ Some key
    → ((k : RetryKey) → call_in after k ≡ cond (same_caller (caller_key key) (caller_key k)) (option_map (meets position place) (call_in before key)) (call_in before k))
    → IsAnswered entries position place before after
met entries position place key before after keyed put = λ k.
    put k ∙ if_same (meets position place) (same_caller (caller_key key) (caller_key k)) (call_in before k) (call_in before key) (λ same. ap (call_in before) (same_keys key k same))
    ∙ ap (λ (b : Bool). option_map (λ (c : CallPlaces). if b then meets position place c else c) (call_in before k))
    (flip key k ∙ sym (ap (λ (o : Option RetryKey). option_map_or (same_key k) o false) keyed))

-- which no call has
unput : (before : Places) (key k : RetryKey) (b : Bool) → same_caller (caller_key key) (caller_key k) ≡ b → (m : CallPlaces → CallPlaces) → call_in before key ≡ None
    → call_in before k ≡ cond b (option_map m (call_in before key)) (call_in before k)
unput before key k true same m none = ap (call_in before) (sym (same_keys key k same)) ∙ none ∙ ap (option_map m) (sym none)
unput before key k false same m none = refl

pub met_nobody : (entries : List Entry) (position place : ℕ) (key : RetryKey) (before : Places) → key_at entries position ≡ Some key → call_in before key ≡ None
    → IsAnswered entries position place before before
met_nobody entries position place key before keyed none =
    met entries position place key before before keyed (λ k. unput before key k _ refl (meets position place) none)

-- ---- and so by each answer

or_twice : (o : Option ℕ) (place : ℕ) → option_or (option_or o (Some place)) (Some place) ≡ option_or o (Some place)
or_twice None place = refl
or_twice (Some n) place = refl

and_false : (b : Bool) → (b && false) ≡ false
and_false true = refl
and_false false = refl

if_both : (p q : Bool) (x y c : CallPlaces) → x ≡ y → (if p then (if q then x else c) else c) ≡ (if p && q then y else c)
if_both true true x y c e = e
if_both true false x y c e = refl
if_both false q x y c e = refl

if_either : (p q r : Bool) (x c : CallPlaces) → (if p && r then x else (if p && q then x else c)) ≡ (if p && (q || r) then x else c)
if_either false q r x c = refl
if_either true true true x c = refl
if_either true true false x c = refl
if_either true false true x c = refl
if_either true false false x c = refl

module _ (entries : List Entry) (place : ℕ) (k : RetryKey) where
  abbrev told_if : Bool → CallPlaces → CallPlaces
  told_if b c = if is_keyed entries c.entry k && b then answered_by place c else c

  met_if : (position : ℕ) (c : CallPlaces) (b : Bool) → meets_keyed entries position place k (if b then answered_by place c else c)
      ≡ (if is_keyed entries position k && (c.entry == position) then answered_by place c else (if b then answered_by place c else c))
  met_if position c true =
      if_both (is_keyed entries position k) (c.entry == position) _ (answered_by place c) (answered_by place c)
      (ap (stood_at c.entry) (or_twice c.answered place))
  met_if position c false = if_both (is_keyed entries position k) (c.entry == position) _ (answered_by place c) c refl

  keyed_there : (position : ℕ) (c : CallPlaces) (b : Bool) → (c.entry == position) ≡ b → (is_keyed entries position k && b) ≡ (is_keyed entries c.entry k && b)
  keyed_there position c true e = ap (λ (n : ℕ). is_keyed entries n k && true) (sym (same_of c.entry position e))
  keyed_there position c false e = and_false (is_keyed entries position k) ∙ sym (and_false (is_keyed entries c.entry k))

  told_more : (a : Finished) (b : Bool) (c : CallPlaces) → meets_keyed entries a.position place k (told_if b c) ≡ told_if (b || is_for c.entry a) c
  told_more a b c =
      met_if a.position c (is_keyed entries c.entry k && b)
      ∙ ap (λ (t : Bool). if t then answered_by place c else told_if b c) (keyed_there a.position c (c.entry == a.position) refl)
      ∙ if_either (is_keyed entries c.entry k) b (c.entry == a.position) (answered_by place c) c
      ∙ ap (λ (t : Bool). told_if (b || t) c) (turn c.entry a.position)

  told_at : (answers : List Finished) (i : ℕ) (d : Finished) (o : Option CallPlaces) → i < length answers
      → option_map (meets_keyed entries (get_or answers i d).position place k) (option_map (told_by entries (take i answers) place k) o)
      ≡ option_map (told_by entries (take (i + 1) answers) place k) o
  told_at answers i d None less = refl
  told_at answers i d (Some c) less =
      ap Some (told_more (get_or answers i d) (list_any (is_for c.entry) (take i answers)) c
      ∙ ap (λ (t : Bool). told_if t c) (sym (list_any_more (is_for c.entry) answers i d less)))

  none_told : (o : Option CallPlaces) → o ≡ option_map (told_by entries [] place k) o
  none_told None = refl
  none_told (Some c) = ap (λ (t : Bool). Some (if t then answered_by place c else c)) (sym (and_false (is_keyed entries c.entry k)))

pub take_past : (n : ℕ) (xs : List Finished) → length xs ≤ n → take n xs ≡ xs
take_past zero [] le = refl
take_past zero (x ∷ xs) le = absurd (omega (arith, le))
take_past (suc n) [] le = refl
take_past (suc n) (x ∷ xs) le = ap (λ (ys : List Finished). x ∷ ys) (take_past n xs (omega (arith, le)))

pub told_first : (entries : List Entry) (answers : List Finished) (place : ℕ) (before : Places) → AreAnswered entries (take 0 answers) place before before
told_first entries [] place before = λ k. none_told entries place k (call_in before k)
told_first entries (a ∷ answers) place before = λ k. none_told entries place k (call_in before k)

pub told_next : (entries : List Entry) (answers : List Finished) (place i : ℕ) (a : Finished) (before between after : Places) → i < length answers → a ≡ get_or answers i a
    → AreAnswered entries (take i answers) place before between → IsAnswered entries a.position place between after → AreAnswered entries (take (i + 1) answers) place before after
told_next entries answers place i a before between after less is some next = λ k.
    next k ∙ ap (option_map (meets_keyed entries a.position place k)) (some k)
    ∙ ap (λ (x : Finished). option_map (meets_keyed entries x.position place k) (option_map (told_by entries (take i answers) place k) (call_in before k))) is
    ∙ told_at entries place k answers i a (call_in before k) less

-- ---- an entry is noted

module _ (entries : List Entry) (place : ℕ) where
  pub noted_none : (before : Places) → slice_get entries place ≡ None → IsNoted entries place before before
  noted_none before is = λ k. ap (λ (o : Option Entry). noted entries place o k (call_in before k)) (sym is)

  module _ (e : Entry) (before : Places) (is : slice_get entries place ≡ Some e) where
    abbrev with_key : RetryKey → Option RetryKey → Option CallPlaces
    with_key k o =
        option_or (option_map (told_by entries e.finished place k) (call_in before k)) (if option_map_or (same_key k) o false then Some (unanswered place) else None)

    pub noted_keyed : (key : RetryKey) (between after : Places) → e.event.key ≡ Some key → AreAnswered entries e.finished place before between
        → IsAdded key place between after → IsNoted entries place before after
    noted_keyed key between after keyed some put = λ k.
        put k ∙ ap (λ (o : Option CallPlaces). option_or o (if same_key k key then Some (unanswered place) else None)) (some k)
        ∙ ap (with_key k) (sym keyed) ∙ ap (λ (o : Option Entry). noted entries place o k (call_in before k)) (sym is)

    pub noted_unkeyed : (after : Places) → e.event.key ≡ None → AreAnswered entries e.finished place before after → IsNoted entries place before after
    noted_unkeyed after keyed some = λ k.
        some k ∙ sym (or_none (option_map (told_by entries e.finished place k) (call_in before k)))
        ∙ ap (with_key k) (sym keyed) ∙ ap (λ (o : Option Entry). noted entries place o k (call_in before k)) (sym is)

-- no event is ready where none is shown
pub no_ready : (r : Option Ready) → option_map (λ (x : Ready). x.event) r ≡ None → r ≡ None
no_ready None none = refl
no_ready (Some r) none = absurd (cc none)
