-- What the calls inside a stream do with what it holds back.
use Rattle.std.specs.Prelude.{◌≡◌, ℕ, ◌+◌, ◌-◌, ◌^◌, ◌<◌, ◌≤◌, min, List, length, Option, Some, None, Result, Ok, Err, IfErr, IfOk, OnErr, OnOk}
use Rattle.giop_frames.specs.declared.fault.FrameFault.{FrameFault}
use Rattle.giop_frames.specs.declared.fault.FrameFault.TheVariants.{Short, Memory}
use Rattle.giop_streams.specs.declared.framed.Framed.{Framed}
use Rattle.giop_streams.specs.declared.stream.Taken.{Taken}
use Rattle.giop_streams.specs.declared.stream.Taken.TheVariants.{Nothing, Piece, Whole}
use Rattle.giop_frames.specs.Fault.{Fails}
use Rattle.giop_streams.specs.Limits.{memory_limit, partial_limit}
use Rattle.giop_streams.specs.Stream.{Part, Unfinished, RefusesFront, after, judged, part_at}
use Rattle.giop_streams.specs.Held.{AreShort, Held, MayWantMemory, WantsMemory, looking}

-- a refusal is answered for good, and want of memory is not
abbrev pub remembering : Held → FrameFault → Held
remembering h Memory = h
remembering h fault = record h { refused = Some fault }

-- of a buffer from whose front so many octets were taken, the octets that are held are at least as many
abbrev pub IsMostlyHeld : ℕ → List ℕ → Type 0
IsMostlyHeld taken buffer = taken + taken ≤ length buffer

-- beside a buffer with so much memory there is some for less than a part, where that is more than the limit
pub record HasSpare (memory spare : ℕ) : Type 0 where
  pub there : memory_limit < memory → spare ≡ partial_limit
  pub few : spare ≤ partial_limit

-- a call judged the part at this place, and these are the unfinished messages behind it
pub record Judges (place : ℕ) (p : Part) (result : Result (Option Framed) FrameFault)
    (old new : List Unfinished) : Type 0 where
  pub says : IfOk result (λ answer. judged old place p ≡ Ok answer)
  pub after : OnOk result (new ≡ after place p old)
  pub refused : IfErr result (λ fault. Fails fault (judged old place p))
  pub memory : IfErr result (λ fault. fault ≡ Memory → MayWantMemory old p)
  pub err : OnErr result (new ≡ old)
  pub short : AreShort new

-- the part at the place was taken, and says this
pub record Took (old : Held) (answer : Option Framed) (new : Held) : Type 0 where
  pub part : Part
  pub stands : part_at old.versions old.rest ≡ Ok (part, new.rest)
  pub says : judged old.unfinished old.place part ≡ Ok answer
  pub unfinished_are : new.unfinished ≡ after old.place part old.unfinished
  pub place_is : new.place ≡ min (old.place + (12 + part.header.size)) (2 ^ 64 - 1)
  pub refused : new.refused ≡ old.refused
  pub versions_are : new.versions ≡ old.versions
  pub kept : new.kept ≤ old.kept
  pub memory : new.memory ≡ old.memory

-- the part at the place is refused
abbrev pub RefusesHeld : Held → FrameFault → Type 0
RefusesHeld h fault = RefusesFront h.versions (judged h.unfinished h.place) h.rest fault

-- nothing is changed but how much was looked at
abbrev pub HasLooked : Held → Held → Type 0
HasLooked old new = (n : ℕ) × (new ≡ record old { looked = n })

abbrev pub Takes : Held → Result Taken FrameFault → Held → Type 0
Takes old (Ok Nothing) new = (new ≡ looking old) × (part_at old.versions old.rest ≡ Err Short)
Takes old (Ok Piece) new = Took old None new
Takes old (Ok (Whole framed)) new = Took old (Some framed) new
Takes old (Err Memory) new = HasLooked old new × WantsMemory old
Takes old (Err fault) new = HasLooked old new × RefusesHeld old fault
