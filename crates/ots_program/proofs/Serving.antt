-- What a service is, and what it has written when it ends.
use Rattle.std.proofs.Common.{◌≡◌, ◌≤◌, arith, inl, inr, length, min, replicate, subst, sym, ℕ, List, [], ◌∷◌, Option, Some}
use Rattle.std.proofs.Math.Nat.{le-min}
use Rattle.ots_model.specs.declared.service.Endpoint.{Endpoint}
use Rattle.ots_outside.specs.Sink.{Takes}
use Rattle.ots_sessions.specs.declared.sessions.ServeEnd.{ServeEnd}
use Rattle.ots_sessions.specs.declared.sessions.ServeEnd.TheVariants as ends
use Rattle.tree_room.specs.Room.{CanBeTold}
use Rattle.ots_program.specs.Serve.{HasTwo, IsUnloadedBy, TellsLine, is_of_load, status_by}
use Rattle.ots_program.specs.Words.{Asks, AsksNothing, IsNamed, IsServe, IsService, Serves, ServesEnd, Serving, asked_by, served}
use Rattle.ots_program.specs.declared.command.Command.{Command}
use Rattle.ots_program.specs.declared.command.Command.TheVariants.{Resource, Serve}
use Rattle.ots_program.specs.declared.devices.Devices.{Devices}
use Rattle.ots_program.specs.declared.serve.Service.{Service}
use Rattle.ots_program.specs.declared.status.Status.{Status}
use Rattle.ots_program.specs.declared.status.Status.TheVariants as statuses

named_host : (words : List (List ℕ)) (s : Serving) → IsServe words s → IsNamed s.host
named_host [] s never = absurd never
named_host (w ∷ []) s never = absurd never
named_host (w ∷ n ∷ []) s never = absurd never
named_host (w ∷ n ∷ f ∷ []) s never = absurd never
named_host (w ∷ n ∷ f ∷ h ∷ []) s never = absurd never
named_host (w ∷ n ∷ f ∷ h ∷ p ∷ []) s (serve, words) = subst IsNamed (sym words.host_same) words.host_is
named_host (w ∷ n ∷ f ∷ h ∷ p ∷ m ∷ more) s never = absurd never

-- the host of a service that was asked for has a name
pub host_of : (words : List (List ℕ)) (command : Command) (service : Service) → command ≡ Serve service → Asks words (asked_by command)
    → IsNamed service.host.now
host_of words command service is asks = named_host words (served service) (subst (λ c. Asks words (asked_by c)) is asks)

-- words that ask for nothing ask for no service
pub no_service : (words : List (List ℕ)) (s : Serving) → AsksNothing words → IsService words s → ⊥
no_service words s nothing (inl asked) = nothing (Serves s) asked
no_service words s nothing (inr asked) = nothing (ServesEnd s) asked

-- what a service that was asked for needs is there
module _ {S K D O L C R : Type 0} (words : List (List ℕ)) (devices : Devices S K D O L C R)
    (two : (s : Serving) → IsService words s → HasTwo devices) (command : Command) (service : Service) where
  pub two_of : command ≡ Serve service → Asks words (asked_by command) → HasTwo devices
  two_of is asks = two (served service) (inl (subst (λ c. Asks words (asked_by c)) is asks))

  pub two_of_end : command ≡ Resource service → Asks words (asked_by command) → HasTwo devices
  two_of_end is asks = two (served service) (inr (subst (λ c. Asks words (asked_by c)) is asks))

-- a reference can tell the host that a command line names
pub can_be_told : (at : Endpoint) (host : List ℕ) (port : ℕ) → IsNamed host → at ≡ record { host = host; port = port } → CanBeTold at
can_be_told at host port named is = subst CanBeTold (sym is) (record { short = named.short; text = named.no_nul })

-- where there are links and clocks for two, there are two servants over them
module _ {S K D O L C R : Type 0} (devices : Devices S K D O L C R) (two : HasTwo devices) (links : List L) (clocks : List C)
    (all_links : links ≡ devices.links.items) (all_clocks : clocks ≡ devices.clocks.items) where
  two_workers : 2 ≤ min (length links) (length clocks)
  two_workers = le-min (subst (λ (l : List L). 2 ≤ length l) (sym all_links) two.links) (subst (λ (c : List C). 2 ≤ length c) (sym all_clocks) two.clocks)

  pub two_servants : (servants : ℕ) → servants ≡ min (length links) (length clocks) → 2 ≤ servants
  two_servants servants is = subst (λ n. 2 ≤ n) (sym is) two_workers

  -- in a room too, since it has passes for more
  pub two_in_room : (servants : ℕ) (passes : List ℕ) → passes ≡ replicate 65 0 → servants ≡ min (length passes) (min (length links) (length clocks)) → 2 ≤ servants
  two_in_room servants passes all is =
      subst (λ n. 2 ≤ n) (sym is) (le-min (subst (λ (p : List ℕ). 2 ≤ length p) (sym all) (omega arith)) two_workers)

module _ (line : List ℕ) (before after : Option (List ℕ)) where
  -- what isn't loaded writes nothing
  pub untold : (status : Status) → is_of_load status → after ≡ before → TellsLine status line before after
  untold statuses.DiskFault kind same = same
  untold (statuses.Limit place limit) kind same = same
  untold (statuses.BadJournal place) kind same = same
  untold statuses.Memory kind same = inr same
  untold statuses.Done never same = absurd never
  untold statuses.Usage never same = absurd never
  untold (statuses.Script place) never same = absurd never
  untold statuses.ReadFault never same = absurd never
  untold statuses.WriteFault never same = absurd never
  untold (statuses.BadMessage place fault) never same = absurd never
  untold statuses.DoorFault never same = absurd never

  -- a line that stands for this one
  pub told_as : (status : Status) (same : List ℕ) → same ≡ line → TellsLine status same before after → TellsLine status line before after
  told_as status same is told = subst (λ text. TellsLine status text before after) is told

  -- what has served has written the line
  pub told_by : (end : ServeEnd) → Takes before line after → TellsLine (status_by end) line before after
  told_by ends.Ended took = took
  told_by ends.DoorFault took = inl took
  told_by ends.Memory took = inl took

-- a refusal of a load is told by its status
pub unloaded : {D : Type 0} (refused : Status → D → D → Type 0) (status : Status) (before after : D) → refused status before after
    → IsUnloadedBy refused status (Some before) (Some after)
unloaded refused statuses.DiskFault before after h = h
unloaded refused (statuses.Limit line limit) before after h = h
unloaded refused (statuses.BadJournal place) before after h = h
unloaded refused statuses.Done before after h = tt
unloaded refused statuses.Usage before after h = tt
unloaded refused (statuses.Script line) before after h = tt
unloaded refused statuses.ReadFault before after h = tt
unloaded refused statuses.WriteFault before after h = tt
unloaded refused (statuses.BadMessage place fault) before after h = tt
unloaded refused statuses.DoorFault before after h = tt
unloaded refused statuses.Memory before after h = tt
