-- What operations name and answers give: sessions, cleaners and collectors.
use Rattle.std.specs.Prelude.{ℕ, Bool, true, false, ◌&&◌, Option, None, Some, is_some, nat_eq, if◌then◌else◌}
use Rattle.std.specs.FinMap.{get}
use Rattle.si_model.specs.Machine.{State, Request, Reply}
use Rattle.si_model.specs.Messages as asks
use Rattle.si_model.specs.Transactions.{Operation, One, Commit, Read, Answer, Said, CommitDone, CommitConflict, ReadDone}
use Rattle.ownership.specs.declared.names.Kind.{Kind}
use Rattle.ownership.specs.declared.names.Kind.TheVariants as kinds
use Rattle.ownership.specs.declared.names.Name.{Name}
use Rattle.ownership.specs.declared.names.Name.TheVariants.{Session, Cleaner, Collector}

-- what a request names: eight do
abbrev pub request_name : Request → Option Name
request_name (asks.Get start cell) = Some (Session start)
request_name (asks.ScanFrom start range keys_only cells) = Some (Session start)
request_name (asks.Set start cell value) = Some (Session start)
request_name (asks.Delete start cell) = Some (Session start)
request_name (asks.Advance start) = Some (Session start)
request_name (asks.Stop start) = Some (Session start)
request_name (asks.CleanStep number) = Some (Cleaner number)
request_name (asks.CollectStep number visits) = Some (Collector number)
request_name other = None

-- a Commit and a Read name a session, unless their start is 0
abbrev pub start_name : ℕ → Option Name
start_name start = if nat_eq start 0 then None else Some (Session start)

-- what an operation names
abbrev pub name_of : Operation → Option Name
name_of (One request) = request_name request
name_of (Commit start writes) = start_name start
name_of (Read start cells stays_open) = start_name start

-- ---- what answers give

-- the kind of a name
abbrev pub kind_of : Name → Kind
kind_of (Session start) = kinds.Session
kind_of (Cleaner number) = kinds.Cleaner
kind_of (Collector number) = kinds.Collector

-- the kind that a reply may give a name of: three requests begin something
abbrev pub request_kind : Request → Option Kind
request_kind asks.Begin = Some kinds.Session
request_kind (asks.CleanBegin cell) = Some kinds.Cleaner
request_kind asks.CollectBegin = Some kinds.Collector
request_kind other = None

-- a Read gives one if it begins a session and leaves it open
abbrev pub read_kind : ℕ → Bool → Option Kind
read_kind start stays_open = if nat_eq start 0 && stays_open then Some kinds.Session else None

-- the kind that the answer to an operation may give a name of
abbrev pub given_kind : Operation → Option Kind
given_kind (One request) = request_kind request
given_kind (Commit start writes) = None
given_kind (Read start cells stays_open) = read_kind start stays_open

-- the name in a reply: three have one
abbrev pub reply_name : Reply → Option Name
reply_name (asks.Begun start) = Some (Session start)
reply_name (asks.Cleaning number start) = Some (Cleaner number)
reply_name (asks.Collecting number floor) = Some (Collector number)
reply_name other = None

-- the name that an answer tells
abbrev pub told_name : Answer → Option Name
told_name (Said reply) = reply_name reply
told_name (CommitDone start stamp) = None
told_name (CommitConflict start place) = None
told_name (ReadDone start said) = Some (Session start)

abbrev pub same_kind : Kind → Kind → Bool
same_kind kinds.Session kinds.Session = true
same_kind kinds.Cleaner kinds.Cleaner = true
same_kind kinds.Collector kinds.Collector = true
same_kind kind other = false

-- it is this kind
abbrev pub is_kind : Option Kind → Kind → Bool
is_kind None kind = false
is_kind (Some this) kind = same_kind this kind

-- the name, if it is of this kind
abbrev pub if_of_kind : Option Kind → Option Name → Option Name
if_of_kind kind None = None
if_of_kind kind (Some name) = if is_kind kind (kind_of name) then Some name else None

-- the name that an answer gives: the one that it tells, if its operation may give one of this kind
abbrev pub answer_name : Option Kind → Answer → Option Name
answer_name kind answer = if_of_kind kind (told_name answer)

abbrev pub same_name : Name → Name → Bool
same_name (Session a) (Session b) = nat_eq a b
same_name (Cleaner a) (Cleaner b) = nat_eq a b
same_name (Collector a) (Collector b) = nat_eq a b
same_name other more = false

-- it is this name
abbrev pub is_name : Option Name → Name → Bool
is_name None name = false
is_name (Some this) name = same_name this name

-- the answer to the operation gives this name
abbrev pub gives : Operation → Answer → Name → Bool
gives operation answer name = is_name (answer_name (given_kind operation) answer) name

-- the machine has it
abbrev pub is_open : State → Name → Bool
is_open st (Session start) = is_some (get st.active start)
is_open st (Cleaner number) = is_some (get st.cleaners number)
is_open st (Collector number) = is_some (get st.collectors number)

abbrev pub is_session : Name → Bool
is_session (Session start) = true
is_session other = false
