-- What each call promises: one equation for its answer, and one for each thing lent to it that it may change.
use Rattle.std.specs.Prelude.{◌≡◌, List, ℕ}
use Rattle.entries.specs.declared.Wide.{Wide}
use Rattle.entries.specs.declared.Entry.{Entry}
use Rattle.entries.specs.declared.Key.{Key}
use Rattle.entries.specs.declared.Found.{Found}
use Rattle.entries.specs.declared.Changed.{Changed}
use Rattle.entries.specs.declared.Page.{Page}
use Rattle.entries.specs.Catalogue.{lookup_of, insert_of, inserted_list, delete_of, deleted_list, listing_of, listed_out}

-- the records are only read
pub record Lookup (k : Key) (n : ℕ) (ys : List Entry) (found : Found) : Type 0 where
  pub answer : found ≡ lookup_of k n ys

pub record Insert (r : Entry) (n : ℕ) (ys : List Entry) (done : Changed) (zs : List Entry) : Type 0 where
  pub answer : done ≡ insert_of r n ys
  pub slots : zs ≡ inserted_list r n ys

pub record Delete (r : Entry) (n : ℕ) (ys : List Entry) (done : Changed) (zs : List Entry) : Type 0 where
  pub answer : done ≡ delete_of r n ys
  pub slots : zs ≡ deleted_list r n ys

-- the records are only read
pub record Listing (k : Key) (n : ℕ) (ys : List Entry) (old : List Wide) (page : Page) (new : List Wide) : Type 0 where
  pub answer : page ≡ listing_of k n ys old
  pub output : new ≡ listed_out k n ys old
