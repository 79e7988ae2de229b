-- A shared book may be used by several threads at once, and a journal may go to another one.
use denote.RattleType.{RattleType}
use denote.Param.Send.{IsSend, IsSync, AllSync, Frees, enum_send, recorded_send, recorded_sync, sendable, struct_sync, view_sync}
use denote.Struct.Declared as declared
use denote.Builtin.{u64}
use denote.Struct.Struct.{Struct}
use denote.Enum.Declared as enumerated
use denote.Enum.Enum.{Enum}
use Rattle.std.proofs.Crossing.{crosses}
use Rattle.std.proofs.MapsCrossing.{crosses as maps}
use Rattle.atomic_table.proofs.shared.Shared.TheSendSync as table
use Rattle.atomic_table.proofs.send_lease.SendLease.TheSendSync as lease
use Rattle.atomic_table.specs.contracts.owned.Table
use Rattle.lock_rule.specs.contracts.view.View
use Rattle.std.specs.contracts.alloc.Global
use Rattle.std.specs.contracts.impls.GlobalAllocator.TheImpl as heap
use Rattle.std.specs.contracts.option.Option
use Rattle.std.specs.contracts.snapshot.Snapshot
use Rattle.shared_book.specs.contracts.turns.Turns
use Rattle.shared_book.specs.contracts.turns.TurnsTableRuleOptionJournalViewSnapshotJournal.TheImpl as rule
use Rattle.lg_disk.specs.declared.disk.Disk.{Ghosts}
use Rattle.column_book.specs.contracts.book.Book.{the_row as book_row}
use Rattle.book_journal.specs.contracts.journal.Journal.{the_row as journal_row}
use Rattle.shared_book.specs.contracts.book.SharedBook.{the_row as shared_row}
use Rattle.shared_book.specs.contracts.book.SharedBook.TheInside as inside

pub book_send : IsSend book_row
book_send = search (sendable, crosses, maps) depth 40

pub journal_send : (D : RattleType) (g : Ghosts D.Denot) → IsSend D → IsSend (journal_row D g)
journal_send D g s = search (sendable, crosses, book_send) depth 40

abbrev table_type : (D : RattleType) → Ghosts D.Denot → declared.Declared
table_type D g = Table.the_type (Option.the_row (journal_row D g)) View.the_row (Snapshot.the_row (journal_row D g)) Turns.the_row Global.the_row
    (rule.ghosts D g rule.no_dict) heap.ghosts

slot_send : (D : RattleType) (g : Ghosts D.Denot) → IsSend D → IsSend (Option.the_row (journal_row D g))
slot_send D g s = let T = Option.the_type (journal_row D g) in recorded_send (Enum (enumerated.shape T)) T.D T.to T.to_one
    (enum_send (enumerated.shape T) (tt, ((search (sendable, journal_send D g s) depth 20, tt), tt)))

heap_send : IsSend Global.the_row
heap_send = search (sendable, crosses) depth 20

heap_frees : Frees heap.ghosts heap.ghosts.dealloc_token
heap_frees = search (sendable, crosses) depth 20

pub inside_sync : (D : RattleType) (g : Ghosts D.Denot) → IsSend D → IsSync (inside.the_row D g)
inside_sync D g s =
    let slot = slot_send D g s in
    let parts : AllSync (declared.fields (table_type D g)) = (
      table.the_sync (Option.the_row (journal_row D g)) View.the_row (Snapshot.the_row (journal_row D g)) Turns.the_row (rule.ghosts D g rule.no_dict) slot,
      (
        search sendable depth 20,
        (
          search sendable depth 20,
          (
            lease.the_sync u64 Global.the_row heap.ghosts heap_send heap_frees,
            (lease.the_sync (Option.the_row (journal_row D g)) Global.the_row heap.ghosts heap_send heap_frees, (search (sendable, crosses) depth 20, tt)),
          ),
        ),
      ),
    ) in
    let all : AllSync (declared.fields (inside.the_type D g)) = (
      struct_sync (declared.shape (table_type D g)) parts,
      (search (sendable, crosses) depth 30, (search sendable depth 30, tt)),
    ) in
    let T = inside.the_type D g in recorded_sync (Struct (declared.shape T)) T.D T.to T.to_one (struct_sync (declared.shape T) all)

pub shared_sync : (D : RattleType) (g : Ghosts D.Denot) → IsSend D → IsSync (shared_row D g)
shared_sync D g s = view_sync _ _ _ _ _ (inside_sync D g s)
