-- How calls and replies are spelled: of each type the rows, a value of each word, and the value of the same word
-- with other numbers.
use Rattle.std.specs.{Prelude.{ℕ, List, [], ◌∷◌, map, codes}, List.flat_map}
use Rattle.kernel_object.specs.{declared.call.KCall.KCall, declared.call.KReply.KReply, declared.call.KReply.TheVariants.{Ok, Already, BadThread, Thread, Empty, Absent, Count, Page, NoPage, OverQuota, BadOwner, NotYours, NotTaken, BadPage, Dropped, Byte, BadChannel, BadCall}, Kinds.All.{all_kinds, on_call, call_of}}
use Rattle.kernel_words.specs.{Kinds.All.text_of, Row.{Row, first, wide, byte}}

-- how a call is spelled
abbrev pub call_row : KCall → Row
call_row c = on_call (λ k own. (text_of k).row own) c

-- the call of the same word with these numbers
abbrev pub call_filled : KCall → List ℕ → KCall
call_filled c ns = on_call (λ k own. call_of k ((text_of k).filled own ns)) c

-- a call of each word
abbrev pub call_samples : List KCall
call_samples = flat_map (λ kind. map (call_of kind) (text_of kind).samples) all_kinds

-- how a reply is spelled
abbrev pub reply_row : KReply → Row
reply_row Ok = record { word = codes "ok"; fields = [] }
reply_row Already = record { word = codes "already"; fields = [] }
reply_row BadThread = record { word = codes "badthread"; fields = [] }
reply_row (Thread t) = record { word = codes "thread"; fields = wide t ∷ [] }
reply_row Empty = record { word = codes "empty"; fields = [] }
reply_row Absent = record { word = codes "absent"; fields = [] }
reply_row (Count n) = record { word = codes "count"; fields = wide n ∷ [] }
reply_row (Page p) = record { word = codes "page"; fields = wide p ∷ [] }
reply_row NoPage = record { word = codes "none"; fields = [] }
reply_row OverQuota = record { word = codes "overquota"; fields = [] }
reply_row BadOwner = record { word = codes "badowner"; fields = [] }
reply_row NotYours = record { word = codes "notyours"; fields = [] }
reply_row NotTaken = record { word = codes "nottaken"; fields = [] }
reply_row BadPage = record { word = codes "badpage"; fields = [] }
reply_row (Dropped b) = record { word = codes "dropped"; fields = byte b ∷ [] }
reply_row (Byte b) = record { word = codes "byte"; fields = byte b ∷ [] }
reply_row BadChannel = record { word = codes "badchannel"; fields = [] }
reply_row BadCall = record { word = codes "badcall"; fields = [] }

-- the reply of the same word with these numbers
abbrev pub reply_filled : KReply → List ℕ → KReply
reply_filled (Thread _) ns = Thread (first ns)
reply_filled (Count _) ns = Count (first ns)
reply_filled (Page _) ns = Page (first ns)
reply_filled (Dropped _) ns = Dropped (first ns)
reply_filled (Byte _) ns = Byte (first ns)
reply_filled r ns = r

-- a reply of each word
abbrev pub reply_samples : List KReply
reply_samples = Ok ∷ Already ∷ BadThread ∷ Thread 0 ∷ Empty ∷ Absent ∷ Count 0 ∷ Page 0 ∷ NoPage ∷ OverQuota ∷ BadOwner ∷ NotYours ∷ NotTaken ∷ BadPage ∷ Dropped 0 ∷ Byte 0 ∷ BadChannel ∷ BadCall ∷ []
