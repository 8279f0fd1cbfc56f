-- What contracts say of the ends of a mailbox.
use Rattle.std.specs.Prelude.{◌≡◌, ℕ, ◌<◌, List, [], ◌∷◌, ◌++◌, length, Some, slice_get, All}
use Rattle.std.specs.Arc.{arc_value}
use Rattle.atomic_table.specs.Seated.{TableId}
use Rattle.crossbeam_queue.specs.Passes.{view, ruled_capacity}
use Rattle.svc_mail.specs.declared.letter.Letter.{Letter}
use Rattle.svc_mail.specs.declared.sender.Sender.{Sender}
use Rattle.svc_mail.specs.declared.receiver.Receiver.{Receiver}
use Rattle.svc_mail.specs.declared.mailbox.Mailbox.{Mailbox}
use Rattle.svc_mail.specs.declared.note.MailboxNote.{MailboxNote}
use Rattle.svc_mail.specs.History.{letter, row_of, IsHistory, StartsWith, IsAmong}

module _ {T : Type 0} where
  -- the mailbox of the note
  abbrev pub note_home : MailboxNote T → TableId
  note_home n = n.mark.table_id

  -- the history, as far as the end that made the note had seen it
  abbrev pub history_in : MailboxNote T → List (Letter T)
  history_in n = (view n.mark).seen

  -- what was taken, as far as the end that made the note knew
  abbrev pub taken_in : MailboxNote T → List (Letter T)
  taken_in n = (view n.mark).taken

module _ {T A : Type 0} where
  -- the mailbox of the sender
  abbrev pub home : Sender T A → TableId
  home s = s.mark.table_id

  abbrev pub number_of : Sender T A → ℕ
  number_of s = s.number

  -- what the sender posted, in order
  abbrev pub posted : Sender T A → List T
  posted s = (view s.mark).row

  -- the history up to its last letter
  abbrev pub seen_by : Sender T A → List (Letter T)
  seen_by s = (view s.mark).seen

  -- for each note that the sender learnt, what that note gives as taken
  abbrev pub heard_by : Sender T A → List (List (Letter T))
  heard_by s = (view s.mark).heard

  -- how many senders its mailbox has
  abbrev pub senders_of : Sender T A → ℕ
  senders_of s = (view s.mark).all

  -- how many letters its mailbox has room for
  abbrev pub room_of : Sender T A → ℕ
  room_of s = ruled_capacity (arc_value s.queue)

  abbrev pub receiver_home : Receiver T A → TableId
  receiver_home r = r.mark.table_id

  -- what the receiver took, in order
  abbrev pub taken_by : Receiver T A → List (Letter T)
  taken_by r = (view r.mark).taken

  -- the history at its last take
  abbrev pub seen_at : Receiver T A → List (Letter T)
  seen_at r = (view r.mark).seen

  -- for each note that the receiver learnt, the history that the note gives
  abbrev pub heard_at : Receiver T A → List (List (Letter T))
  heard_at r = (view r.mark).heard

  -- how many senders its mailbox has
  abbrev pub senders_at : Receiver T A → ℕ
  senders_at r = (view r.mark).all

  -- the same end of the same mailbox
  abbrev pub IsSameSender : Sender T A → Sender T A → Type 0
  IsSameSender old new =
      (home new ≡ home old) × (number_of new ≡ number_of old) × (room_of new ≡ room_of old)
      × (senders_of new ≡ senders_of old)

  -- the same sender, which has posted no more, seen no more and learnt no more
  abbrev pub IsUnchangedSender : Sender T A → Sender T A → Type 0
  IsUnchangedSender old new =
      IsSameSender old new × (posted new ≡ posted old) × (seen_by new ≡ seen_by old) × (heard_by new ≡ heard_by old)

  -- the same sender, which has posted these items more
  abbrev pub HasPosted : Sender T A → List T → Sender T A → Type 0
  HasPosted old items new = IsSameSender old new × (posted new ≡ posted old ++ items)

  -- the item joined the history as one letter, at the next place of its sender's row, after all of the history that
  -- this sender had seen
  abbrev pub JoinsHistory : Sender T A → T → Sender T A → Type 0
  JoinsHistory old item new =
      ((between : List (Letter T))
      × (seen_by new ≡ (seen_by old ++ between) ++ letter (number_of old) (length (posted old)) item ∷ []))
      × IsHistory (seen_by new) × (posted new ≡ row_of (number_of new) (seen_by new))

  -- at one moment the mailbox was full: after the letters taken, it held as many as it has room for. The letters taken
  -- include all that this sender had heard of. All these letters are a history that has this sender's row and continues
  -- what it had seen.
  abbrev pub WasFull : Sender T A → Type 0
  WasFull s =
      (taken held : List (Letter T)) × (length held ≡ room_of s)
      × IsHistory (taken ++ held) × IsAmong (senders_of s) (taken ++ held)
      × (posted s ≡ row_of (number_of s) (taken ++ held)) × StartsWith (taken ++ held) (seen_by s)
      × All (StartsWith taken) (heard_by s)

  -- the same receiver of the same mailbox
  abbrev pub IsSameReceiver : Receiver T A → Receiver T A → Type 0
  IsSameReceiver old new = (receiver_home new ≡ receiver_home old) × (senders_at new ≡ senders_at old)

  -- the same receiver, which has taken no more, seen no more and learnt no more
  abbrev pub IsUnchangedReceiver : Receiver T A → Receiver T A → Type 0
  IsUnchangedReceiver old new =
      IsSameReceiver old new × (taken_by new ≡ taken_by old) × (seen_at new ≡ seen_at old)
      × (heard_at new ≡ heard_at old)

  -- the same receiver, which has taken these letters more
  abbrev pub HasTaken : Receiver T A → List (Letter T) → Receiver T A → Type 0
  HasTaken old letters new = IsSameReceiver old new × (taken_by new ≡ taken_by old ++ letters)

  -- what was taken begins the history, and the history continues what the receiver had seen of it
  abbrev pub FollowsHistory : Receiver T A → Receiver T A → Type 0
  FollowsHistory old new =
      IsHistory (seen_at new) × IsAmong (senders_at old) (seen_at new)
      × StartsWith (seen_at new) (taken_by new) × StartsWith (seen_at new) (seen_at old)

  -- at one moment the mailbox held no letter: what was taken was then the whole history, with all of it that the
  -- receiver had seen or heard of
  abbrev pub WasEmpty : Receiver T A → Type 0
  WasEmpty r =
      IsHistory (taken_by r) × IsAmong (senders_at r) (taken_by r) × StartsWith (taken_by r) (seen_at r)
      × All (StartsWith (taken_by r)) (heard_at r)

  -- which mailbox this is
  abbrev pub box_of : Mailbox T A → TableId
  box_of m = (arc_value m.queue).table.shared.table_id

  -- how many letters the mailbox has room for
  abbrev pub capacity_of : Mailbox T A → ℕ
  capacity_of m = ruled_capacity (arc_value m.queue)

  -- how many senders the mailbox was opened with
  abbrev pub senders_in : Mailbox T A → ℕ
  senders_in m = m.senders

  -- this is the receiver of this mailbox
  abbrev pub IsItsReceiver : Mailbox T A → Receiver T A → Type 0
  IsItsReceiver m r = (receiver_home r ≡ box_of m) × (senders_at r ≡ senders_in m)

  -- sender k of the mailbox, which has posted nothing
  abbrev pub IsNewSender : ℕ → ℕ → TableId → ℕ → Sender T A → Type 0
  IsNewSender capacity senders box k s =
      (home s ≡ box) × (number_of s ≡ k) × (posted s ≡ []) × (seen_by s ≡ [])
      × (senders_of s ≡ senders) × (room_of s ≡ capacity)

  -- the senders of the mailbox, with the numbers 0, 1, 2 and so on
  abbrev pub AreNewSenders : ℕ → ℕ → TableId → List (Sender T A) → Type 0
  AreNewSenders capacity senders box ss =
      (k : ℕ) (s : Sender T A) → slice_get ss k ≡ Some s → IsNewSender capacity senders box k s

  -- a mailbox that was just opened: its senders, in the order of their numbers, and its receiver, which has taken
  -- nothing
  abbrev pub IsOpen : ℕ → ℕ → Mailbox T A → List (Sender T A) → Receiver T A → Type 0
  IsOpen capacity senders m ss r =
      (capacity_of m ≡ capacity) × (senders_in m ≡ senders)
      × (length ss ≡ senders) × AreNewSenders capacity senders (box_of m) ss
      × IsItsReceiver m r × (taken_by r ≡ []) × (seen_at r ≡ [])

  -- these are all senders of the mailbox, in any order
  abbrev pub AreAllSenders : Mailbox T A → List (Sender T A) → Type 0
  AreAllSenders m ss =
      All (λ s. home s ≡ box_of m) ss
      × ((k : ℕ) → k < senders_in m → (i : ℕ) × (s : Sender T A) × (slice_get ss i ≡ Some s) × (number_of s ≡ k))

  -- what is known of a sender that has ended
  abbrev pub record_of : Sender T A → ℕ × List T × List (Letter T)
  record_of s = (number_of s, posted s, seen_by s)

-- this is the whole history. Each sender's letters in it are what it posted, at the places 0, 1, 2 and so on. There are
-- no other letters, and the history begins with what each end had seen of it.
pub record IsWholeHistory {T A : Type 0} (ss : List (Sender T A)) (r : Receiver T A) (log : List (Letter T))
    : Type 0 where
  pub places : IsHistory log
  pub among : IsAmong (senders_at r) log
  pub seen : StartsWith log (seen_at r)
  pub rows : (i : ℕ) (s : Sender T A) → slice_get ss i ≡ Some s
      → (posted s ≡ row_of (number_of s) log) × StartsWith log (seen_by s)
