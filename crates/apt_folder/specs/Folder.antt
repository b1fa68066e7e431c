-- The folder of a FolderShelf, and where its files lie.
use Rattle.std.specs.Prelude.{ℕ, List, [], ◌∷◌, ◌++◌, ◌==◌, if◌then◌else◌}
use Rattle.std.proofs.Common.{string_bytes}
use Rattle.apt_folder.specs.declared.folder.FolderShelf.{FolderShelf}

-- the name of the folder
abbrev pub folder_of : {R A F : Type 0} → FolderShelf R A F → List ℕ
folder_of shelf = string_bytes shelf.folder

-- the path of a name: a name that begins with `/` is taken as it is, another lies in the folder
abbrev pub path_in : List ℕ → List ℕ → List ℕ
path_in folder [] = folder ++ 47 ∷ []
path_in folder (c ∷ name) = if c == 47 then c ∷ name else folder ++ 47 ∷ c ∷ name
