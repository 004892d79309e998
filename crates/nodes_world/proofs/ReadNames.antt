-- Each line that the grammar reads gives a name, if it gives one.
use Rattle.std.proofs.Common.{◌≡◌, ℕ, ◌+◌, ◌^◌, Bool, true, false, cond, nat_lt, List, [], ◌∷◌, length, codes, bytes_eq, Option, Some, None, refl, subst}
use Rattle.std.specs.Option.{option_and_then, option_map}
use Rattle.ots_model.specs.Name.{IsName, is_name}
use Rattle.ots_world.specs.declared.script.ScriptEvent.{ScriptEvent}
use Rattle.ots_world.specs.declared.script.ScriptEvent.TheVariants as events
use Rattle.ots_world.specs.Limits.{flow_limit, line_limit}
use Rattle.ots_world.specs.Script.{Bad, Blank, Says, decision, event_of, event_of_names, event_of_one, event_of_server, event_of_three, event_of_two, flag, image, is_blank, name, number, number_within, of_two, of_three, reading, relation, says, stop, whose, words}
use Rattle.nodes_world.specs.Agreement.{GivesName, ReadNamesAreNames}

-- where an event is read, its names fit
abbrev Fit : Option ScriptEvent → Type 0
Fit o = (event : ScriptEvent) → o ≡ Some event → GivesName event

inner : {A : Type 0} (x y : A) → Some x ≡ Some y → x ≡ y
inner x y e = cc

fit_cond : (b : Bool) (x y : Option ScriptEvent) → Fit x → Fit y → Fit (cond b x y)
fit_cond true x y one other = one
fit_cond false x y one other = other

fit_none : Fit None
fit_none event is = absurd cc

fit_map : {A : Type 0} (make : A → ScriptEvent) (o : Option A) → ((x : A) → GivesName (make x)) → Fit (option_map make o)
fit_map make (Some x) all event is = subst (λ (e : ScriptEvent). GivesName e) (inner (make x) event is) (all x)
fit_map make None all event is = absurd cc

fit_then : {A : Type 0} (make : A → Option ScriptEvent) (o : Option A) → ((x : A) → Fit (make x)) → Fit (option_and_then make o)
fit_then make (Some x) all event is = all x event is
fit_then make None all event is = absurd cc

fit_two : {A B : Type 0} (make : A → B → ScriptEvent) (a : Option A) (b : Option B) → ((x : A) (y : B) → GivesName (make x y)) → Fit (of_two make a b)
fit_two make a b all = fit_then (λ x. option_map (make x) b) a (λ x. fit_map (make x) b (all x))

fit_three : {A B C : Type 0} (make : A → B → C → ScriptEvent) (a : Option A) (b : Option B) (c : Option C)
    → ((x : A) (y : B) (z : C) → GivesName (make x y z)) → Fit (of_three make a b c)
fit_three make a b c all = fit_then (λ x. of_two (make x) b c) a (λ x. fit_two (make x) b c (all x))

-- where a name is read, it is one
named_then : (make : List ℕ → Option ScriptEvent) (word : List ℕ) → ((x : List ℕ) → IsName x → Fit (make x)) → Fit (option_and_then make (name word))
unfolding name
named_then make word all = by (is_name word) refl
  where
    by : (b : Bool) → is_name word ≡ b → Fit (option_and_then make (cond b (Some word) None))
    by true is event e = all word is event e
    by false is event e = absurd cc

fit_some : (made : ScriptEvent) → GivesName made → Fit (Some made)
fit_some made is event e = subst (λ (x : ScriptEvent). GivesName x) (inner made event e) is

named_one : (make : List ℕ → ScriptEvent) (word : List ℕ) → ((x : List ℕ) → IsName x → GivesName (make x)) → Fit (option_map make (name word))
unfolding name
named_one make word all = by (is_name word) refl
  where
    by : (b : Bool) → is_name word ≡ b → Fit (option_map make (cond b (Some word) None))
    by true is event e = fit_some (make word) (all word is) event e
    by false is event e = absurd cc

named_two : {A : Type 0} (make : A → List ℕ → ScriptEvent) (a : Option A) (word : List ℕ) → ((x : A) (y : List ℕ) → IsName y → GivesName (make x y))
    → Fit (of_two make a (name word))
named_two make a word all = fit_then (λ x. option_map (make x) (name word)) a (λ x. named_one (make x) word (all x))

named_three : {A B : Type 0} (make : A → B → List ℕ → ScriptEvent) (a : Option A) (b : Option B) (word : List ℕ)
    → ((x : A) (y : B) (z : List ℕ) → IsName z → GivesName (make x y z)) → Fit (of_three make a b (name word))
named_three make a b word all = fit_then (λ x. of_two (make x) b (name word)) a (λ x. named_two (make x) b word (all x))

named_amid : {A C : Type 0} (make : A → List ℕ → C → ScriptEvent) (a : Option A) (word : List ℕ) (c : Option C)
    → ((x : A) (y : List ℕ) (z : C) → IsName y → GivesName (make x y z)) → Fit (of_three make a (name word) c)
named_amid make a word c all =
    fit_then (λ x. of_two (make x) (name word) c) a
    (λ x. named_then (λ y. option_map (make x y) c) word (λ y is. fit_map (make x y) c (λ z. all x y z is)))

one_fits : (word a : List ℕ) → Fit (event_of_one word a)
unfolding event_of_one
one_fits word a =
    fit_cond (bytes_eq word (codes "node")) _ _ (named_one events.Node a (λ x is. is))
    (fit_cond (bytes_eq word (codes "end")) _ _ (named_one events.End a (λ x is. is))
    (fit_cond (bytes_eq word (codes "refuse")) _ _ (fit_map events.Refuse (name a) (λ x. tt))
    (fit_cond (bytes_eq word (codes "balk")) _ _ (fit_map events.Balk (name a) (λ x. tt))
    (fit_cond (bytes_eq word (codes "rollback")) _ _ (fit_map events.Rollback (name a) (λ x. tt))
    (fit_cond (bytes_eq word (codes "mark")) _ _ (fit_map events.Mark (name a) (λ x. tt))
    (fit_cond (bytes_eq word (codes "name")) _ _ (fit_map events.NameOf (name a) (λ x. tt))
    (fit_cond (bytes_eq word (codes "hash")) _ _ (fit_map events.Hash (name a) (λ x. tt))
    (fit_cond (bytes_eq word (codes "crash")) _ _ (fit_map events.Crash (name a) (λ x. tt))
    (fit_cond (bytes_eq word (codes "restart")) _ _ (fit_map events.Restart (name a) (λ x. tt))
    (fit_cond (bytes_eq word (codes "flow")) _ _ (fit_map events.Flow (number_within 1 (flow_limit + 1) a) (λ x. tt))
    (fit_cond (bytes_eq word (codes "deliver")) _ _ (fit_map events.Deliver (number a) (λ x. tt))
    (fit_cond (bytes_eq word (codes "lose")) _ _ (fit_map events.Lose (number a) (λ x. tt))
    (fit_cond (bytes_eq word (codes "giveup")) _ _ (fit_map events.GiveUp (number a) (λ x. tt)) fit_none)))))))))))))

server_fits : (word a b : List ℕ) → Fit (event_of_server word a b)
unfolding event_of_server
server_fits word a b =
    fit_cond (bytes_eq word (codes "tick")) _ _ (fit_two events.Tick (name a) (number b) (λ x y. tt))
    (fit_cond (bytes_eq word (codes "fail")) _ _ (fit_two events.Fail (name a) (number_within 1 (2 ^ 64) b) (λ x y. tt)) fit_none)

two_fits : (word a b : List ℕ) → Fit (event_of_two word a b)
unfolding event_of_two
two_fits word a b =
    fit_cond (bytes_eq word (codes "sub")) _ _ (named_two events.Sub (name a) b (λ x y is. is))
    (fit_cond (bytes_eq word (codes "get")) _ _ (fit_two events.Get (name a) (number b) (λ x y. tt))
    (fit_cond (bytes_eq word (codes "choose")) _ _ (fit_two events.Choose (name a) (decision b) (λ x y. tt))
    (fit_cond (bytes_eq word (codes "commit")) _ _ (fit_two events.Commit (name a) (flag b) (λ x y. tt))
    (fit_cond (bytes_eq word (codes "status")) _ _ (fit_two events.Status (name a) (whose b) (λ x y. tt)) (server_fits word a b)))))

names_are_fit : (word a b c : List ℕ) → Fit (event_of_names word a b c)
unfolding event_of_names
names_are_fit word a b c =
    fit_cond (bytes_eq word (codes "register")) _ _ (named_three events.Register (name a) (name b) c (λ x y z is. is))
    (fit_cond (bytes_eq word (codes "aware")) _ _ (named_three events.Aware (name a) (name b) c (λ x y z is. is))
    (fit_cond (bytes_eq word (codes "double")) _ _ (named_three events.Double (name a) (name b) c (λ x y z is. is))
    (fit_cond (bytes_eq word (codes "sync")) _ _ (fit_three events.Sync (name a) (name b) (name c) (λ x y z. tt))
    (fit_cond (bytes_eq word (codes "import")) _ _ (fit_three events.Import (name a) (name b) (name c) (λ x y z. tt)) fit_none))))

three_fits : (word a b c : List ℕ) → Fit (event_of_three word a b c)
unfolding event_of_three
three_fits word a b c =
    fit_cond (bytes_eq word (codes "begin")) _ _ (named_amid events.Begin (name a) b (number_within 0 (2 ^ 32) c) (λ x y z is. is))
    (fit_cond (bytes_eq word (codes "put")) _ _ (fit_three events.Put (name a) (number b) (number c) (λ x y z. tt))
    (fit_cond (bytes_eq word (codes "rel")) _ _ (fit_three events.Relate (relation a) (name b) (name c) (λ x y z. tt)) (names_are_fit word a b c)))

stop_fits : (a b c : List ℕ) → Fit (stop a b c)
unfolding stop
stop_fits a b c = fit_three events.Stop (name a) (number_within 1 (2 ^ 64) b) (image c) (λ x y z. tt)

words_fit : (some : List (List ℕ)) → Fit (event_of some)
words_fit [] = fit_none
words_fit (word ∷ []) = fit_none
words_fit (word ∷ a ∷ []) = one_fits word a
words_fit (word ∷ a ∷ b ∷ []) = two_fits word a b
words_fit (word ∷ a ∷ b ∷ c ∷ []) = fit_cond (bytes_eq word (codes "stop")) (stop a b c) (event_of_three word a b c) (stop_fits a b c) (three_fits word a b c)
words_fit (word ∷ a ∷ b ∷ c ∷ d ∷ others) = fit_none

pub read_names_are_names : ReadNamesAreNames
unfolding reading
read_names_are_names line event is = long (nat_lt line_limit (length line)) is
  where
    said : (o : Option ScriptEvent) → Fit o → says o ≡ Says event → GivesName event
    said (Some e) fit is = fit event (same e is)
      where
        same : (e : ScriptEvent) → Says e ≡ Says event → Some e ≡ Some event
        same e is = cc
    said None fit is = absurd cc

    blank : (b : Bool) → cond b Blank (says (event_of (words line))) ≡ Says event → GivesName event
    blank true is = absurd cc
    blank false is = said (event_of (words line)) (words_fit (words line)) is

    long : (b : Bool) → cond b Bad (cond (is_blank line) Blank (says (event_of (words line)))) ≡ Says event → GivesName event
    long true is = absurd cc
    long false is = blank (is_blank line) is
