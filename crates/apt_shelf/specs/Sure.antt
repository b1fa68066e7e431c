-- What a SureShelf holds.
use Rattle.apt_shelf.specs.Told.{Contents}
use Rattle.apt_shelf.specs.Store.{contents_of}
use Rattle.apt_shelf.specs.declared.sure.SureShelf.{SureShelf}

-- the bytes under each name
abbrev pub files_of : SureShelf → Contents
files_of shelf = contents_of shelf.store
