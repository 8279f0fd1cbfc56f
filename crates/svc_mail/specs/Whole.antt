-- What a closed mailbox has: what was taken and what is left, compared with what each sender posted.
use Rattle.std.specs.Prelude.{◌≡◌, ℕ, ◌<◌, List, ◌++◌, Some, slice_get}
use Rattle.svc_mail.specs.declared.letter.Letter.{Letter}
use Rattle.svc_mail.specs.declared.sender.Sender.{Sender}
use Rattle.svc_mail.specs.declared.receiver.Receiver.{Receiver}
use Rattle.svc_mail.specs.History.{letters, of_sender, row_of}
use Rattle.svc_mail.specs.Ends.{number_of, posted, taken_by, IsWholeHistory}

module _ {T : Type 0} where
  -- each letter names one of the senders, whose numbers are below `all`
  abbrev pub NamesASender : ℕ → List (Letter T) → Type 0
  NamesASender all log = (i : ℕ) (l : Letter T) → slice_get log i ≡ Some l → l.sender < all

  -- no two letters have the same sender and place
  abbrev pub IsEachOnce : List (Letter T) → Type 0
  IsEachOnce log =
      (i j : ℕ) (a b : Letter T) → slice_get log i ≡ Some a → slice_get log j ≡ Some b
      → a.sender ≡ b.sender → a.place ≡ b.place → i ≡ j

module _ {T A : Type 0} where
  -- what each sender posted is what was taken of it, followed by what is left of it
  abbrev pub RowsArrive : List (Sender T A) → List (Letter T) → List (Letter T) → Type 0
  RowsArrive ss taken left =
      (i : ℕ) (s : Sender T A) → slice_get ss i ≡ Some s
      → posted s ≡ row_of (number_of s) taken ++ row_of (number_of s) left

  -- those letters have the places 0, 1, 2 and so on
  abbrev pub PlacesRunOn : List (Sender T A) → List (Letter T) → List (Letter T) → Type 0
  PlacesRunOn ss taken left =
      (i : ℕ) (s : Sender T A) → slice_get ss i ≡ Some s
      → of_sender (number_of s) taken ++ of_sender (number_of s) left ≡ letters (number_of s) 0 (posted s)

  -- for all senders, the receiver and the letters left of a closed mailbox
  abbrev pub OfEachClosed : (List (Sender T A) → Receiver T A → List (Letter T) → Type 0) → Type 0
  OfEachClosed P =
      (ss : List (Sender T A)) (r : Receiver T A) (left : List (Letter T)) → IsWholeHistory ss r (taken_by r ++ left)
      → P ss r left
