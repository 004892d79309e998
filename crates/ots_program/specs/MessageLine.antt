-- What `ots show` writes for a message (our profile).
use Rattle.std.specs.Prelude.{ℕ, ◌&&◌, nat_le, List, [], ◌∷◌, ◌++◌, length, map, codes, if◌then◌else◌}
use Rattle.std.specs.List.{flat_map, join_with_byte}
use Rattle.std.specs.Fmt.{decimal}
use Rattle.hex.specs.Hex.{encode_lower}
use Rattle.cdr_values.specs.declared.order.Order.{Order}
use Rattle.cdr_values.specs.declared.order.Order.TheVariants.{Big, Little}
use Rattle.giop_streams.specs.declared.framed.Framed.{Framed}
use Rattle.giop_frames.specs.declared.message.Message.{Message}
use Rattle.giop_frames.specs.declared.message.Message.TheVariants as messages
use Rattle.giop_frames.specs.declared.message.Reply.{Reply}
use Rattle.giop_frames.specs.declared.message.Request.{Request}
use Rattle.giop_frames.specs.declared.message.Target.{Target}
use Rattle.giop_frames.specs.declared.message.Target.TheVariants.{Key, Profile, Reference}
use Rattle.giop_frames.specs.declared.message.ServiceContext.{ServiceContext}

abbrev pub order_word : Order → List ℕ
order_word Big = codes "big"
order_word Little = codes "little"

-- an octet of an operation's name, or a question mark where it isn't a visible character of ASCII
abbrev pub visible : ℕ → ℕ
visible octet = if nat_le 33 octet && nat_le octet 126 then octet else 63

-- the key in hexadecimal digits; a dash where there is none
abbrev pub key_word : Target → List ℕ
key_word (Key key) = encode_lower key
key_word Profile = codes "-"
key_word Reference = codes "-"

-- the ids of the service contexts, with commas between; a dash where there is none
abbrev pub contexts_word : List ServiceContext → List ℕ
contexts_word [] = codes "-"
contexts_word (context ∷ contexts) = join_with_byte 44 (map (λ c. decimal c.id) (context ∷ contexts))

-- a line on contexts and body, and its end
abbrev pub behind_fields : List ServiceContext → List ℕ → List ℕ
behind_fields contexts body = codes " contexts " ++ (contexts_word contexts
    ++ (codes " body " ++ (decimal (length body) ++ 10 ∷ [])))

-- a line on the size of the first part
abbrev pub sized : List ℕ → Order → ℕ → List ℕ
sized name order size = name ++ (order_word order ++ (codes " size " ++ (decimal size ++ 10 ∷ [])))

-- the line of a request behind its place
abbrev pub shown_request : Order → Request → List ℕ
shown_request order r = codes " request " ++ (order_word order
    ++ (codes " id " ++ (decimal r.id
    ++ (codes " op " ++ (map visible r.operation
    ++ (codes " key " ++ (key_word r.target
    ++ behind_fields r.contexts r.body)))))))

-- the line of a reply behind its place
abbrev pub shown_reply : Order → Reply → List ℕ
shown_reply order r = codes " reply " ++ (order_word order
    ++ (codes " id " ++ (decimal r.id
    ++ (codes " status " ++ (decimal r.status
    ++ behind_fields r.contexts r.body)))))

-- the line behind the place
abbrev pub shown : Order → ℕ → Message → List ℕ
shown order size (messages.Request r) = shown_request order r
shown order size (messages.Reply r) = shown_reply order r
shown order size (messages.Cancel id) = sized (codes " cancel ") order size
shown order size (messages.Locate l) = sized (codes " locate ") order size
shown order size (messages.LocateReply l) = sized (codes " located ") order size
shown order size messages.Close = sized (codes " close ") order size
shown order size messages.Error = sized (codes " error ") order size

-- the line of a message: where its first part stands, and what it is
unfoldable pub message_line : Framed → List ℕ
message_line framed = decimal framed.place ++ shown framed.order framed.size framed.message

-- the lines of messages
abbrev pub message_lines : List Framed → List ℕ
message_lines messages = flat_map message_line messages
