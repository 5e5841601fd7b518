-- Scripts that the machine can follow from its first state. Cells are counted from 1 in replies.
use Rattle.std.specs.Prelude.{true, false, List, [], ◌∷◌, Some, None, codes}
use Rattle.cell_key.specs.declared.refusals.Refusal.TheVariants.{UnknownSession, UnknownCollector, BadSplit}
use Rattle.si_model.specs.declared.replies.Cell.{Cell}
use Rattle.si_model.specs.Machine.{State, Request, Reply, Run, new_machine, reopened, Begin, Get, Range, Valued, Locked, Unsent, ToEnd, UpTo, Set, Delete, ScanFrom, Advance, Stop, CleanBegin, CleanStep, CollectBegin, CollectStep, Split, Move, Begun, Answered, Pending, SetDone, DeleteDone, Scanned, Held, Conflict, Drawn, Committed, Lost, Finished, StopDone, Cleaning, NoLock, Decided, Gone, RolledForward, RolledBack, Collecting, More, Blocked, Collected, SplitOff, MoveDone, Refused}

-- a new machine can give these replies to the requests
abbrev pub CanAnswer : List Request → List Reply → Type 0
CanAnswer qs rs = (st : State) × Run new_machine qs rs st

-- and further ones after a clean restart
abbrev pub CanAnswerAcross : List Request → List Reply → List Request → List Reply → Type 0
CanAnswerAcross qs rs qs' rs' =
    (mid : State) × (st : State) × Run new_machine qs rs mid × Run (reopened mid) qs' rs' st

-- the balances of Bob and of Joe
abbrev pub bob : Cell
bob = record { row = codes "Bob"; family = codes "bal" }

abbrev pub joe : Cell
joe = record { row = codes "Joe"; family = codes "bal" }

-- the balance of Eve, who comes between them
abbrev pub eve : Cell
eve = record { row = codes "Eve"; family = codes "bal" }

-- one cell is set, held, committed and read
abbrev pub FirstCell : Type 0
FirstCell = CanAnswer
    (Begin ∷ Set 1 bob (codes "v") ∷ Advance 1 ∷ Advance 1 ∷ Advance 1 ∷ Begin ∷ Get 3 bob ∷ [])
    (Begun 1
    ∷ SetDone ∷ Held 1 1 ∷ Drawn 2 ∷ Committed 2 ∷ Begun 3 ∷ Answered (Some (codes "v")) ∷ [])

-- A cell that has a value is deleted. A session that began before the deletion's commit waits while the deletion's mark
-- is there, and then reads the value; a session that began after it reads nothing.
abbrev pub DeletedCell : Type 0
DeletedCell = CanAnswer
    (Begin ∷ Set 1 bob (codes "v") ∷ Advance 1 ∷ Advance 1 ∷ Advance 1
    ∷ Begin ∷ Delete 3 bob ∷ Advance 3 ∷ Begin ∷ Get 4 bob ∷ Advance 3 ∷ Advance 3 ∷ Get 4 bob
    ∷ Begin ∷ Get 6 bob ∷ [])
    (Begun 1 ∷ SetDone ∷ Held 1 1 ∷ Drawn 2 ∷ Committed 2
    ∷ Begun 3 ∷ DeleteDone ∷ Held 1 1 ∷ Begun 4 ∷ Pending 3 ∷ Drawn 5 ∷ Committed 5
    ∷ Answered (Some (codes "v"))
    ∷ Begun 6 ∷ Answered None ∷ [])

-- all cells, and the balances that come after Bob's up to Joe's
abbrev pub all_cells : Range
all_cells = record { after = None; end = None; family = None }

abbrev pub up_to_joe : Range
up_to_joe = record { after = Some bob; end = Some (codes "Joe"); family = Some (codes "bal") }

-- Bob has 10 and Joe 2, and Eve gets 5. A session that begins before Eve's commit scans two cells, and meets her mark.
-- After her commit it scans all cells, and she isn't named. A scan of keys only names Joe without his 2.
abbrev pub ScannedCells : Type 0
ScannedCells = CanAnswer
    (Begin ∷ Set 1 bob (codes "10")
    ∷ Set 1 joe (codes "2") ∷ Advance 1 ∷ Advance 1 ∷ Advance 1 ∷ Advance 1 ∷ Advance 1
    ∷ Begin ∷ Set 3 eve (codes "5") ∷ Advance 3 ∷ Begin ∷ ScanFrom 4 all_cells false 2
    ∷ Advance 3 ∷ Advance 3 ∷ ScanFrom 4 all_cells false 1000 ∷ ScanFrom 4 up_to_joe true 10 ∷ [])
    (Begun 1 ∷ SetDone ∷ SetDone ∷ Held 1 2 ∷ Held 2 2 ∷ Drawn 2 ∷ Committed 2 ∷ Finished 2 2
    ∷ Begun 3 ∷ SetDone ∷ Held 1 1 ∷ Begun 4
    ∷ Scanned ((bob, Valued (codes "10")) ∷ (eve, Locked 3) ∷ []) (UpTo eve)
    ∷ Drawn 5 ∷ Committed 5
    ∷ Scanned ((bob, Valued (codes "10")) ∷ (joe, Valued (codes "2")) ∷ []) ToEnd
    ∷ Scanned ((joe, Unsent) ∷ []) ToEnd ∷ [])

-- Bob has 10 and Joe 2. A second session reads both and moves 7 from Bob to Joe, and a third reads the new balances.
abbrev pub Transfer : Type 0
Transfer = CanAnswer
    (Begin ∷ Set 1 bob (codes "10")
    ∷ Set 1 joe (codes "2") ∷ Advance 1 ∷ Advance 1 ∷ Advance 1 ∷ Advance 1 ∷ Advance 1
    ∷ Begin ∷ Get 3 bob ∷ Get 3 joe
    ∷ Set 3 bob (codes "3")
    ∷ Set 3 joe (codes "9") ∷ Advance 3 ∷ Advance 3 ∷ Advance 3 ∷ Advance 3 ∷ Advance 3
    ∷ Begin ∷ Get 5 bob ∷ Get 5 joe ∷ Advance 3 ∷ [])
    (Begun 1 ∷ SetDone ∷ SetDone ∷ Held 1 2 ∷ Held 2 2 ∷ Drawn 2 ∷ Committed 2 ∷ Finished 2 2
    ∷ Begun 3 ∷ Answered (Some (codes "10")) ∷ Answered (Some (codes "2"))
    ∷ SetDone ∷ SetDone ∷ Held 1 2 ∷ Held 2 2 ∷ Drawn 4 ∷ Committed 4 ∷ Finished 2 2
    ∷ Begun 5
    ∷ Answered (Some (codes "3")) ∷ Answered (Some (codes "9")) ∷ Refused UnknownSession ∷ [])

-- Two concurrent sessions write Bob's cell and Joe's cell: both commit (snapshot isolation, write skew).
abbrev pub WriteSkew : Type 0
WriteSkew = CanAnswer
    (Begin ∷ Set 1 bob (codes "1")
    ∷ Set 1 joe (codes "1") ∷ Advance 1 ∷ Advance 1 ∷ Advance 1 ∷ Advance 1 ∷ Advance 1
    ∷ Begin ∷ Begin ∷ Set 3 bob (codes "0") ∷ Set 4 joe (codes "0")
    ∷ Advance 3 ∷ Advance 4 ∷ Advance 3 ∷ Advance 4 ∷ Advance 3 ∷ Advance 4
    ∷ Begin ∷ Get 7 bob ∷ Get 7 joe ∷ [])
    (Begun 1 ∷ SetDone ∷ SetDone ∷ Held 1 2 ∷ Held 2 2 ∷ Drawn 2 ∷ Committed 2 ∷ Finished 2 2
    ∷ Begun 3 ∷ Begun 4 ∷ SetDone ∷ SetDone
    ∷ Held 1 1 ∷ Held 1 1 ∷ Drawn 5 ∷ Drawn 6 ∷ Committed 5 ∷ Committed 6
    ∷ Begun 7 ∷ Answered (Some (codes "0")) ∷ Answered (Some (codes "0")) ∷ [])

-- Two sessions write one cell. The first to hold it continues, and the other meets its mark.
abbrev pub FirstHolder : Type 0
FirstHolder = CanAnswer
    (Begin ∷ Begin
    ∷ Set 1 bob (codes "v") ∷ Set 2 bob (codes "v") ∷ Advance 1 ∷ Advance 2 ∷ Advance 2 ∷ [])
    (Begun 1 ∷ Begun 2 ∷ SetDone ∷ SetDone ∷ Held 1 1 ∷ Conflict 1 ∷ Refused UnknownSession ∷ [])

-- Two sessions write one cell. The one that began later commits first,
-- and the other meets its commit.
abbrev pub YoungerFirst : Type 0
YoungerFirst = CanAnswer
    (Begin ∷ Begin ∷ Set 1 bob (codes "v")
    ∷ Set 2 bob (codes "v") ∷ Advance 2 ∷ Advance 2 ∷ Advance 2 ∷ Advance 1 ∷ [])
    (Begun 1 ∷ Begun 2 ∷ SetDone ∷ SetDone ∷ Held 1 1 ∷ Drawn 3 ∷ Committed 3 ∷ Conflict 1 ∷ [])

-- The transfer stops before its commit. A cleaner at Joe's cell rolls it back,
-- and both old balances are read.
abbrev pub RolledBackTransfer : Type 0
RolledBackTransfer = CanAnswer
    (Begin ∷ Set 1 bob (codes "10")
    ∷ Set 1 joe (codes "2") ∷ Advance 1 ∷ Advance 1 ∷ Advance 1 ∷ Advance 1 ∷ Advance 1
    ∷ Begin ∷ Get 3 bob ∷ Get 3 joe
    ∷ Set 3 bob (codes "3") ∷ Set 3 joe (codes "9") ∷ Advance 3 ∷ Advance 3 ∷ Advance 3 ∷ Stop 3
    ∷ Begin ∷ CleanBegin joe ∷ CleanStep 1 ∷ CleanStep 1 ∷ Get 5 bob ∷ Get 5 joe ∷ [])
    (Begun 1 ∷ SetDone ∷ SetDone ∷ Held 1 2 ∷ Held 2 2 ∷ Drawn 2 ∷ Committed 2 ∷ Finished 2 2
    ∷ Begun 3 ∷ Answered (Some (codes "10"))
    ∷ Answered (Some (codes "2")) ∷ SetDone ∷ SetDone ∷ Held 1 2 ∷ Held 2 2 ∷ Drawn 4 ∷ StopDone
    ∷ Begun 5 ∷ Cleaning 1 3
    ∷ Decided ∷ RolledBack ∷ Answered (Some (codes "10")) ∷ Answered (Some (codes "2")) ∷ [])

-- While the transfer is under way the next reader waits, and at the commit it sees Bob's new balance at once.
abbrev pub CommitPoint : Type 0
CommitPoint = CanAnswer
    (Begin ∷ Set 1 bob (codes "10")
    ∷ Set 1 joe (codes "2") ∷ Advance 1 ∷ Advance 1 ∷ Advance 1 ∷ Advance 1 ∷ Advance 1
    ∷ Begin ∷ Get 3 bob ∷ Get 3 joe
    ∷ Set 3 bob (codes "3") ∷ Set 3 joe (codes "9") ∷ Advance 3 ∷ Advance 3 ∷ Advance 3
    ∷ Begin ∷ Get 5 bob ∷ Advance 3 ∷ Get 5 bob ∷ Get 5 joe ∷ Advance 3 ∷ Get 5 joe ∷ [])
    (Begun 1 ∷ SetDone ∷ SetDone ∷ Held 1 2 ∷ Held 2 2 ∷ Drawn 2 ∷ Committed 2 ∷ Finished 2 2
    ∷ Begun 3 ∷ Answered (Some (codes "10"))
    ∷ Answered (Some (codes "2")) ∷ SetDone ∷ SetDone ∷ Held 1 2 ∷ Held 2 2 ∷ Drawn 4
    ∷ Begun 5 ∷ Pending 3 ∷ Committed 4
    ∷ Answered (Some (codes "3")) ∷ Pending 3 ∷ Finished 2 2 ∷ Answered (Some (codes "9")) ∷ [])

-- A cleaner rolls the transfer back while it runs, and the transfer's next step reports this.
abbrev pub LostTransfer : Type 0
LostTransfer = CanAnswer
    (Begin ∷ Set 1 bob (codes "10")
    ∷ Set 1 joe (codes "2") ∷ Advance 1 ∷ Advance 1 ∷ Advance 1 ∷ Advance 1 ∷ Advance 1
    ∷ Begin ∷ Get 3 bob ∷ Get 3 joe
    ∷ Set 3 bob (codes "3") ∷ Set 3 joe (codes "9") ∷ Advance 3 ∷ Advance 3 ∷ Advance 3
    ∷ Begin ∷ CleanBegin joe ∷ CleanStep 1 ∷ CleanStep 1 ∷ Advance 3 ∷ Advance 3 ∷ [])
    (Begun 1 ∷ SetDone ∷ SetDone ∷ Held 1 2 ∷ Held 2 2 ∷ Drawn 2 ∷ Committed 2 ∷ Finished 2 2
    ∷ Begun 3 ∷ Answered (Some (codes "10"))
    ∷ Answered (Some (codes "2")) ∷ SetDone ∷ SetDone ∷ Held 1 2 ∷ Held 2 2 ∷ Drawn 4
    ∷ Begun 5 ∷ Cleaning 1 3 ∷ Decided ∷ RolledBack ∷ Lost ∷ Refused UnknownSession ∷ [])

-- The transfer stops between its commit and Joe's cell. A collector meets the mark there, a cleaner rolls it forward,
-- and the collector ends.
abbrev pub StrandedMark : Type 0
StrandedMark = CanAnswer
    (Begin ∷ Set 1 bob (codes "10")
    ∷ Set 1 joe (codes "2") ∷ Advance 1 ∷ Advance 1 ∷ Advance 1 ∷ Advance 1 ∷ Advance 1
    ∷ Begin ∷ Get 3 bob ∷ Get 3 joe ∷ Set 3 bob (codes "3")
    ∷ Set 3 joe (codes "9") ∷ Advance 3 ∷ Advance 3 ∷ Advance 3 ∷ Advance 3 ∷ Stop 3
    ∷ CollectBegin ∷ CollectStep 1 10 ∷ CleanBegin joe
    ∷ CleanStep 1 ∷ CleanStep 1 ∷ CollectStep 1 6 ∷ CollectStep 1 1 ∷ CollectStep 1 1 ∷ [])
    (Begun 1 ∷ SetDone ∷ SetDone ∷ Held 1 2 ∷ Held 2 2 ∷ Drawn 2 ∷ Committed 2 ∷ Finished 2 2
    ∷ Begun 3 ∷ Answered (Some (codes "10")) ∷ Answered (Some (codes "2"))
    ∷ SetDone ∷ SetDone ∷ Held 1 2 ∷ Held 2 2 ∷ Drawn 4 ∷ Committed 4 ∷ StopDone
    ∷ Collecting 1 5 ∷ Blocked joe 3 ∷ Cleaning 1 3
    ∷ Decided ∷ RolledForward 4 ∷ More ∷ Collected ∷ Refused UnknownCollector ∷ [])

-- All rows up to Bob's go to a tablet of their own. Both tablets move.
abbrev pub SplitTablet : Type 0
SplitTablet = CanAnswer
    (Split (codes "Bob") ∷ Split (codes "Bob") ∷ Move 2 3 ∷ Move 1 4 ∷ [])
    (SplitOff 2 ∷ Refused BadSplit ∷ MoveDone ∷ MoveDone ∷ [])

-- A mark outlives a clean restart: it blocks reads until a cleaner clears it.
abbrev pub MarkStays : Type 0
MarkStays = CanAnswerAcross
    (Begin ∷ Set 1 bob (codes "v") ∷ Advance 1 ∷ []) (Begun 1 ∷ SetDone ∷ Held 1 1 ∷ [])
    (Begin
    ∷ Get 2 bob ∷ CleanBegin bob ∷ CleanStep 1 ∷ CleanStep 1 ∷ Get 2 bob ∷ CleanBegin bob ∷ [])
    (Begun 2 ∷ Pending 1 ∷ Cleaning 1 1 ∷ Decided ∷ Gone ∷ Answered None ∷ NoLock ∷ [])
