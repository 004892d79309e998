-- The scripts of `examples/` and a shorter one, event by event (our profile).
use Rattle.std.specs.Prelude.{ℕ, true, false, List, [], ◌∷◌, codes}
use Rattle.ots_world.specs.declared.script.Image.TheVariants.{New}
use Rattle.ots_world.specs.declared.script.ScriptEvent.{ScriptEvent}
use Rattle.ots_world.specs.declared.script.ScriptEvent.TheVariants as events
use Rattle.ots_world.specs.declared.script.Whose.TheVariants.{Own}

-- ---- names

abbrev pub n1 : List ℕ
n1 = codes "n1"

abbrev pub e1 : List ℕ
e1 = codes "e1"

abbrev pub t1 : List ℕ
t1 = codes "t1"

abbrev pub t2 : List ℕ
t2 = codes "t2"

abbrev pub t3 : List ℕ
t3 = codes "t3"

abbrev pub g1 : List ℕ
g1 = codes "g1"

abbrev pub g2 : List ℕ
g2 = codes "g2"

abbrev pub g3 : List ℕ
g3 = codes "g3"

-- ---- scripts

-- `commit.script`: both resources vote commit
abbrev pub commit_script : List ScriptEvent
commit_script =
    events.Node n1
    ∷ events.End e1
    ∷ events.Begin n1 t1 0
    ∷ events.Register t1 e1 g1
    ∷ events.Register t1 e1 g2
    ∷ events.Put g1 1 10
    ∷ events.Put g2 2 20
    ∷ events.Commit t1 false
    ∷ events.Flow 100
    ∷ []

-- `rollback.script`: the second one votes rollback
abbrev pub rollback_script : List ScriptEvent
rollback_script =
    events.Node n1
    ∷ events.End e1
    ∷ events.Begin n1 t1 0
    ∷ events.Register t1 e1 g1
    ∷ events.Register t1 e1 g2
    ∷ events.Put g1 1 10
    ∷ events.Put g2 2 20
    ∷ events.Refuse g2
    ∷ events.Commit t1 false
    ∷ events.Flow 100
    ∷ []

-- `crash.script`: the node crashes inside the write of its decision, which is left as written, and comes up again
abbrev pub crash_script : List ScriptEvent
crash_script =
    events.Node n1
    ∷ events.End e1
    ∷ events.Begin n1 t1 0
    ∷ events.Register t1 e1 g1
    ∷ events.Register t1 e1 g2
    ∷ events.Put g1 1 10
    ∷ events.Put g2 2 20
    ∷ events.Commit t1 false
    ∷ events.Stop n1 2 New
    ∷ events.Flow 100
    ∷ events.Restart n1
    ∷ events.Tick n1 1
    ∷ events.Flow 100
    ∷ []

-- `nested.script`: one subtransaction is committed, with its resource, and one is rolled back
abbrev pub nested_script : List ScriptEvent
nested_script =
    events.Node n1
    ∷ events.End e1
    ∷ events.Begin n1 t1 0
    ∷ events.Sub t1 t2
    ∷ events.Sub t1 t3
    ∷ events.Register t2 e1 g1
    ∷ events.Register t1 e1 g2
    ∷ events.Register t3 e1 g3
    ∷ events.Put g1 1 10
    ∷ events.Put g2 2 20
    ∷ events.Put g3 3 30
    ∷ events.Commit t2 false
    ∷ events.Rollback t3
    ∷ events.Flow 100
    ∷ events.Status t3 Own
    ∷ events.Commit t1 false
    ∷ events.Flow 100
    ∷ []

-- a transaction without participants is committed, its node crashes and comes up again, and a client calls it again
abbrev pub short_script : List ScriptEvent
short_script =
    events.Node n1
    ∷ events.Begin n1 t1 0
    ∷ events.Commit t1 true
    ∷ events.Crash n1
    ∷ events.Restart n1
    ∷ events.Commit t1 false
    ∷ []
