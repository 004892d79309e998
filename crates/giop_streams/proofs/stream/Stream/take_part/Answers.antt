use Rattle.std.proofs.Common.{◌≡◌, subst, ℕ, ◌+◌, ◌∙◌, ap, sym, refl, List, length, drop, take, Option, Ok, Err, None, Some}
use Rattle.std.specs.Prelude.{◌≢◌, vec_capacity}
use Rattle.std.proofs.lemmas.List.{drop-drop}
use Rattle.std.proofs.lemmas.Result.{err_from_is_err_and}
use Rattle.giop_streams.specs.declared.framed.Framed.{Framed}
use Rattle.giop_streams.specs.StreamInside.{IsInFront}
use Rattle.giop_frames.specs.declared.fault.FrameFault.TheVariants as faults
use Rattle.giop_streams.specs.Stream.{part_at}
use Rattle.giop_streams.proofs.Holding.{refused_octets, refused_part, took}
use Rattle.giop_streams.proofs.stream.Stream.take_part.Goals as goal

pub returns-in_default-framed : goal.returns-in_default-framed
returns-in_default-framed c =
    let inside = c.self.inside in
    let rest : List ℕ = drop inside.start inside.buffer.octets in
    let size = c.in-Some.header.size in
    let rest-is : c.behind-rest.result.now ≡ rest = c.behind-rest.ensures ∙ ap (drop inside.start) c.octets.ensures in
    let front : IsInFront inside.versions.now c.in-Some.header rest = rw (← rest-is) (rw c.in-Some.is at c.in_ok-header.ensures.part) in
    let content-is : c.content_of-content.result.now ≡ take size (drop 12 rest) = c.content_of-content.ensures ∙ ap (λ (x : List ℕ). take size (drop 12 x)) rest-is in
    took inside.versions.now inside.messages.items inside.place rest inside.header.count inside.refused (length inside.buffer.octets) inside.buffer.memory (vec_capacity inside.spare) c.in-Some.header c.content_of-content.result.now None _ c.args.self.now c.self.view_is front content-is
    (c.in_ok-framed.ensures.says ∙ ap (λ (a : Option Framed). Ok a) c.in_default-framed.is) c.in_ok-framed.ensures.after c.saturating_add-self-inside.ensures (c.give_back-self-inside.ensures.held ∙ sym (drop-drop (12 + size) inside.start inside.buffer.octets)) refl refl c.give_back-self-inside.ensures.kept c.give_back-self-inside.ensures.memory

pub returns : goal.returns
returns c =
    let inside = c.self.inside in
    let rest : List ℕ = drop inside.start inside.buffer.octets in
    let size = c.in-Some.header.size in
    let rest-is : c.behind-rest.result.now ≡ rest = c.behind-rest.ensures ∙ ap (drop inside.start) c.octets.ensures in
    let front : IsInFront inside.versions.now c.in-Some.header rest = rw (← rest-is) (rw c.in-Some.is at c.in_ok-header.ensures.part) in
    let content-is : c.content_of-content.result.now ≡ take size (drop 12 rest) = c.content_of-content.ensures ∙ ap (λ (x : List ℕ). take size (drop 12 x)) rest-is in
    took inside.versions.now inside.messages.items inside.place rest inside.header.count inside.refused (length inside.buffer.octets) inside.buffer.memory (vec_capacity inside.spare) c.in-Some.header c.content_of-content.result.now (Some c.in-Some-framed.framed) _ c.args.self.now c.self.view_is front content-is
    (c.in_ok-framed.ensures.says ∙ ap (λ (a : Option Framed). Ok a) c.in-Some-framed.is) c.in_ok-framed.ensures.after c.saturating_add-self-inside.ensures (c.give_back-self-inside.ensures.held ∙ sym (drop-drop (12 + size) inside.start inside.buffer.octets)) refl refl c.give_back-self-inside.ensures.kept c.give_back-self-inside.ensures.memory

pub returns-in_err-framed : goal.returns-in_err-framed
returns-in_err-framed c =
    let inside = c.self.inside in
    let rest : List ℕ = drop inside.start inside.buffer.octets in
    let size = c.in-Some.header.size in
    let rest-is : c.behind-rest.result.now ≡ rest = c.behind-rest.ensures ∙ ap (drop inside.start) c.octets.ensures in
    let front : IsInFront inside.versions.now c.in-Some.header rest = rw (← rest-is) (rw c.in-Some.is at c.in_ok-header.ensures.part) in
    let content-is : c.content_of-content.result.now ≡ take size (drop 12 rest) = c.content_of-content.ensures ∙ ap (λ (x : List ℕ). take size (drop 12 x)) rest-is in
    let p = err_from_is_err_and c.from_residual-in_err-framed.result c.from_residual-in_err-framed.ensures.1 in
    rw (p.1, p.2)
    (refused_part inside.versions.now inside.messages.items inside.place rest inside.header.count inside.refused (length inside.buffer.octets) inside.buffer.memory (vec_capacity inside.spare) c.in-Some.header c.content_of-content.result.now c.in_err-framed.field-0.0 _ _ c.args.self.now c.self.view_is front content-is c.in_err-framed.ensures.refused c.in_err-framed.ensures.memory c.in_err-framed.ensures.err)

pub returns-in_err-header : goal.returns-in_err-header
returns-in_err-header c =
    let inside = c.self.inside in
    let rest : List ℕ = drop inside.start inside.buffer.octets in
    let rest-is : c.behind-rest.result.now ≡ rest = c.behind-rest.ensures ∙ ap (drop inside.start) c.octets.ensures in
    let fault = c.in_err-header.field-0.0 in
    let part : (part_at inside.versions.now rest ≡ Err fault) × (fault ≢ faults.Short) = subst (λ (x : List ℕ). (part_at inside.versions.now x ≡ Err fault) × (fault ≢ faults.Short)) rest-is c.in_err-header.ensures.refused in
    let p = err_from_is_err_and c.from_residual.result c.from_residual.ensures.1 in
    rw (p.1, p.2)
    (refused_octets inside.versions.now inside.messages.items inside.place rest inside.header.count inside.refused (length inside.buffer.octets) inside.buffer.memory (vec_capacity inside.spare) fault _ c.args.self.now c.self.view_is part c.in_err-header.ensures.memory)
