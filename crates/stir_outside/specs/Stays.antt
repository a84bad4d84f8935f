-- What stays over a call that uses a shelf of files or a provider of signatures: what they tell, and that no count
-- falls.
use Rattle.std.specs.Prelude.{◌≡◌, ◌≤◌}
use Rattle.stir_outside.specs.Files.{CountsGoOn}
use Rattle.stir_outside.specs.declared.provider.Provider.{Ghosts as ProviderOf}
use Rattle.stir_outside.specs.declared.shelf.Shelf.{Ghosts as ShelfOf}

-- the shelf tells the same files, and its counts go on
pub record ShelfStays {S : Type 0} (shelf : ShelfOf S) (before now : S) : Type 0 where
  pub files : shelf.files now ≡ shelf.files before
  pub counts : CountsGoOn (shelf.counts before) (shelf.counts now)

-- the provider confirms and makes the same signatures, and its count of failures didn't fall
pub record ProviderStays {P : Type 0} (provider : ProviderOf P) (before now : P) : Type 0 where
  pub says : provider.says now ≡ provider.says before
  pub signs : provider.signs now ≡ provider.signs before
  pub faults : provider.faults before ≤ provider.faults now
