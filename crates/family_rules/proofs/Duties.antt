-- What a call has to tell, by the tasks that keep it.
use Rattle.std.proofs.Common.{◌≡◌, ◌∙◌, refl, ap, sym, ℕ, zero, suc, ◌+◌, ◌==◌, ◌&&◌, ◌<◌, add-one, append_assoc, take, Bool, true, false, List, [], ◌∷◌, ◌++◌, length, map, Option, Some, None, is_some, arith, if◌then◌else◌}
use Rattle.std.specs.List.{slice_get, filter_map, cons_option}
use Rattle.std.specs.Option.{option_map, IsSome}
use Rattle.std.specs.Prelude.{filter}
use Rattle.std.specs.Option.{option_map_or}
use Rattle.std.proofs.lemmas.List.{map-append, append-nil}
use Rattle.std.proofs.lemmas.List.Elements.{filter_map-append, filter-append}
use Rattle.resource_votes.specs.Ballots.{numbered}
use Rattle.resource_votes.specs.declared.registration.Registration.{Registration}
use Rattle.family_rules.specs.declared.call.Task.{Task}
use Rattle.family_rules.specs.Calls.{AreTasks, duty_in, duties_in, has_tasks, task_to}
use Rattle.family_rules.specs.Order.{AreInOrder}
use Rattle.coordinator.specs.Family.{Duty}
use Rattle.coordinator.specs.declared.call.Ending.{Ending}
use Rattle.coordinator.specs.Running.{has_some, duty_to}

-- what is there
pub record IsThe {A : Type 0} (o : Option A) : Type 0 where
  pub it : A
  pub is : o ≡ Some it

pub the : {A : Type 0} (o : Option A) → is_some o ≡ true → IsThe o
the None h = absurd (cc (h))
the (Some x) h = record { it = x; is = refl }

-- a task is a duty to the registration that it is of
pub record IsDuty (rs : List Registration) (t : Task) (tasks : List Task) : Type 0 where
  pub duty : Duty
  pub is : duty_in rs t ≡ Some duty
  pub first : duties_in rs (t ∷ tasks) ≡ duty ∷ duties_in rs tasks

pub duty_of : (rs : List Registration) (t : Task) (tasks : List Task) → IsSome (numbered rs t.registration) → IsDuty rs t tasks
duty_of rs t tasks there =
    let r = the (numbered rs t.registration) there in
    let d : Duty = record { ending = t.ending; resource = r.it } in
    let is : duty_in rs t ≡ Some d = ap (λ (o : Option Registration). option_map (λ (x : Registration). record { ending = t.ending; resource = x }) o) r.is in
    record {
      duty = d;
      is = is;
      first = ap (λ (o : Option Duty). cons_option o (duties_in rs tasks)) is;
    }

pub as_many : (rs : List Registration) (tasks : List Task) → AreTasks rs tasks → length (duties_in rs tasks) ≡ length tasks
as_many rs [] all = refl
as_many rs (t ∷ tasks) all =
    let d = duty_of rs t tasks all.0 in
    let r = as_many rs tasks all.1 in
    let k = ap (λ (xs : List Duty). length xs) d.first in
    omega (arith, k, r)

pub none_left : (rs : List Registration) (tasks : List Task) → length tasks ≡ 0 → has_some (duties_in rs tasks) ≡ false
none_left rs [] none = refl
none_left rs (t ∷ tasks) none = absurd (omega (arith, none))

pub some_left : (rs : List Registration) (tasks : List Task) → AreTasks rs tasks → 0 < length tasks → has_some (duties_in rs tasks) ≡ true
some_left rs [] all some = absurd (omega (arith, some))
some_left rs (t ∷ tasks) all some = ap (λ (ds : List Duty). has_some ds) (duty_of rs t tasks all.0).first

pub tasks_joined : (rs : List Registration) (xs ys : List Task) → AreTasks rs xs → AreTasks rs ys → AreTasks rs (xs ++ ys)
tasks_joined rs [] ys all also = also
tasks_joined rs (x ∷ xs) ys all also = (all.0, tasks_joined rs xs ys all.1 also)

pub duties_joined : (rs : List Registration) (xs ys : List Task) → duties_in rs (xs ++ ys) ≡ duties_in rs xs ++ duties_in rs ys
duties_joined rs xs ys = filter_map-append (duty_in rs) xs ys

-- ---- tasks are gathered one by one

-- a registration is told of the end of a subtransaction
abbrev told_of : ℕ → Registration → Bool
told_of branch r = r.aware && r.branch == branch

there : (rs : List Registration) (k : ℕ) → k < length rs → IsThe (slice_get rs k)
there [] k within = absurd (omega (arith, within))
there (r ∷ rs) zero within = record { it = r; is = refl }
there (r ∷ rs) (suc k) within = there rs k (omega (arith, within))

take_one : (rs : List Registration) (k : ℕ) (r : Registration) → slice_get rs k ≡ Some r → take (suc k) rs ≡ take k rs ++ r ∷ []
take_one [] k r is = absurd (cc (is))
take_one (x ∷ rs) zero r is = let e : x ≡ r = cc (is) in ap (λ (y : Registration). y ∷ []) e
take_one (x ∷ rs) (suc k) r is = ap (λ (ys : List Registration). x ∷ ys) (take_one rs k r is)

one_more : (rs : List Registration) (k : ℕ) (r : Registration) → slice_get rs k ≡ Some r → take (k + 1) rs ≡ take k rs ++ r ∷ []
one_more rs k r is = ap (λ (n : ℕ). take n rs) (add-one k) ∙ take_one rs k r is

at_number : (rs : List Registration) (k : ℕ) → numbered rs (k + 1) ≡ slice_get rs k
at_number rs k = ap (λ (n : ℕ). numbered rs n) (add-one k)

only_told : (branch : ℕ) (r : Registration) (t : Bool) → told_of branch r ≡ t → filter (told_of branch) (r ∷ []) ≡ (if t then r ∷ [] else [])
only_told branch r t is = ap (λ (b : Bool). if b then r ∷ [] else []) is

told_so_far : (rs : List Registration) (branch k : ℕ) (r : Registration) (t : Bool) → slice_get rs k ≡ Some r → told_of branch r ≡ t
    → filter (told_of branch) (take (k + 1) rs) ≡ filter (told_of branch) (take k rs) ++ (if t then r ∷ [] else [])
told_so_far rs branch k r t is told =
    ap (λ (ys : List Registration). filter (told_of branch) ys) (one_more rs k r is)
    ∙ (filter-append (told_of branch) (take k rs) (r ∷ [])
    ∙ ap (λ (ys : List Registration). filter (told_of branch) (take k rs) ++ ys) (only_told branch r t told))

said_at : (rs : List Registration) (branch k : ℕ) (r : Registration) (t : Bool) → slice_get rs k ≡ Some r
    → option_map_or (told_of branch) (numbered rs (k + 1)) false ≡ t → told_of branch r ≡ t
said_at rs branch k r t is told =
    sym (ap (λ (o : Option Registration). option_map_or (told_of branch) o false) (at_number rs k ∙ is)) ∙ told

-- one that isn't told brings no task
pub gathers_none : (rs : List Registration) (ending : Ending) (branch k : ℕ) → k < length rs
    → option_map_or (told_of branch) (numbered rs (k + 1)) false ≡ false
    → map (duty_to ending) (filter (told_of branch) (take k rs)) ≡ map (duty_to ending) (filter (told_of branch) (take (k + 1) rs))
gathers_none rs ending branch k within told =
    let r = there rs k within in
    sym (ap (λ (ys : List Registration). map (duty_to ending) ys)
    (told_so_far rs branch k r.it false r.is (said_at rs branch k r.it false r.is told)
    ∙ append-nil (filter (told_of branch) (take k rs))))

-- one that is told brings one
pub gathers_one : (rs : List Registration) (ending : Ending) (branch k : ℕ) (xs : List Task) (before : List Duty) → k < length rs
    → option_map_or (told_of branch) (numbered rs (k + 1)) false ≡ true
    → duties_in rs xs ≡ before ++ map (duty_to ending) (filter (told_of branch) (take k rs))
    → duties_in rs (xs ++ record { ending = ending; registration = k + 1 } ∷ []) ≡ before ++ map (duty_to ending) (filter (told_of branch) (take (k + 1) rs))
gathers_one rs ending branch k xs before within told so =
    let r = there rs k within in
    let t : Task = record { ending = ending; registration = k + 1 } in
    let is : duty_in rs t ≡ Some (duty_to ending r.it) =
    ap (λ (o : Option Registration). option_map (λ (x : Registration). record { ending = ending; resource = x }) o) (at_number rs k ∙ r.is) in
    let now : filter (told_of branch) (take (k + 1) rs) ≡ filter (told_of branch) (take k rs) ++ r.it ∷ [] =
    told_so_far rs branch k r.it true r.is (said_at rs branch k r.it true r.is told) in
    let old : List Duty = map (duty_to ending) (filter (told_of branch) (take k rs)) in
    let joined : (before ++ old) ++ duty_to ending r.it ∷ [] ≡ before ++ (old ++ duty_to ending r.it ∷ []) = simp append_assoc in
    duties_joined rs xs (t ∷ [])
    ∙ (ap (λ (ds : List Duty). ds ++ duties_in rs (t ∷ [])) so
    ∙ (ap (λ (o : Option Duty). (before ++ old) ++ cons_option o []) is
    ∙ (joined
    ∙ ap (λ (ds : List Duty). before ++ ds)
    (sym (map-append (duty_to ending) (filter (told_of branch) (take k rs)) (r.it ∷ []))
    ∙ sym (ap (λ (ys : List Registration). map (duty_to ending) ys) now)))))

pub task_there : (rs : List Registration) (ending : Ending) (k : ℕ) → k < length rs → AreTasks rs (record { ending = ending; registration = k + 1 } ∷ [])
task_there rs ending k within =
    let r = there rs k within in
    (ap (λ (o : Option Registration). is_some o) (at_number rs k ∙ r.is), tt)

-- ---- the participants of a list

task_is : (rs : List Registration) (ending : Ending) (n : ℕ) (o : Option Registration) → AreInOrder rs → numbered rs n ≡ o
    → filter_map (duty_in rs) (map (task_to ending) (cons_option o [])) ≡ map (duty_to ending) (cons_option o [])
task_is rs ending n None order is = refl
task_is rs ending n (Some r) order is =
    ap (λ (o : Option Duty). cons_option o [])
    (ap (λ (o : Option Registration). option_map (λ (x : Registration). record { ending = ending; resource = x }) o)
    (ap (λ (i : ℕ). numbered rs i) (order n r is) ∙ is))

one_found : (rs : List Registration) (ending : Ending) (o : Option Registration) (ys : List Registration)
    → filter_map (duty_in rs) (map (task_to ending) (cons_option o [])) ≡ map (duty_to ending) (cons_option o [])
    → filter_map (duty_in rs) (map (task_to ending) ys) ≡ map (duty_to ending) ys
    → filter_map (duty_in rs) (map (task_to ending) (cons_option o ys)) ≡ map (duty_to ending) (cons_option o ys)
one_found rs ending None ys one rest = rest
one_found rs ending (Some r) ys one rest =
    filter_map-append (duty_in rs) (task_to ending r ∷ []) (map (task_to ending) ys)
    ∙ (ap (λ (ds : List Duty). ds ++ filter_map (duty_in rs) (map (task_to ending) ys)) one
    ∙ ap (λ (ds : List Duty). duty_to ending r ∷ ds) rest)

-- the tasks for those that are found by numbers are the duties to them
pub found_duties : (rs : List Registration) (ending : Ending) (ns : List ℕ) → AreInOrder rs
    → duties_in rs (map (task_to ending) (filter_map (numbered rs) ns)) ≡ map (duty_to ending) (filter_map (numbered rs) ns)
found_duties rs ending [] order = refl
found_duties rs ending (n ∷ ns) order =
    one_found rs ending (numbered rs n) (filter_map (numbered rs) ns)
    (task_is rs ending n (numbered rs n) order refl) (found_duties rs ending ns order)

there_at : (rs : List Registration) (n : ℕ) (o : Option Registration) (ending : Ending) (ys : List Registration) → AreInOrder rs → numbered rs n ≡ o
    → AreTasks rs (map (task_to ending) ys) → AreTasks rs (map (task_to ending) (cons_option o ys))
there_at rs n None ending ys order is rest = rest
there_at rs n (Some r) ending ys order is rest =
    (ap (λ (o : Option Registration). is_some o) (ap (λ (i : ℕ). numbered rs i) (order n r is) ∙ is), rest)

pub found_tasks : (rs : List Registration) (ending : Ending) (ns : List ℕ) → AreInOrder rs
    → AreTasks rs (map (task_to ending) (filter_map (numbered rs) ns))
found_tasks rs ending [] order = tt
found_tasks rs ending (n ∷ ns) order =
    there_at rs n (numbered rs n) ending (filter_map (numbered rs) ns) order refl (found_tasks rs ending ns order)

-- ---- whether there are any

pub nothing_there : (tasks : List Task) → has_tasks tasks ≡ false → tasks ≡ []
nothing_there [] h = refl
nothing_there (t ∷ tasks) h = absurd (cc (h))

pub record IsMore (ds : List Duty) : Type 0 where
  pub duty : Duty
  pub others : List Duty
  pub is : ds ≡ duty ∷ others

pub something_there : (rs : List Registration) (tasks : List Task) → AreTasks rs tasks → has_tasks tasks ≡ true → IsMore (duties_in rs tasks)
something_there rs [] all h = absurd (cc (h))
something_there rs (t ∷ tasks) all h =
    let d = duty_of rs t tasks all.0 in
    record { duty = d.duty; others = duties_in rs tasks; is = d.first }

pub some_there : (tasks : List Task) → has_tasks tasks ≡ true → 0 < length tasks
some_there [] h = absurd (cc (h))
some_there (t ∷ tasks) h = omega arith
