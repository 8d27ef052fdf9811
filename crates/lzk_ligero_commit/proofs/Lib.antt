mod ChunkRows
